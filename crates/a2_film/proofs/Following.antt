-- What a step does to the devices: it takes some of the waiting keys, and switches.
use Rattle.std.specs.Prelude.{◌≡◌, ℕ, suc, ◌+◌, Bool, true, false, ◌==◌, nat_lt, if◌then◌else◌, List, [], ◌∷◌}
use Rattle.std.specs.Prelude.{◌++◌, length, refl}
use Rattle.std.proofs.Common.{sym, ap, ◌∙◌, arith, subst, append_assoc, length-append}
use Rattle.a2_page.specs.declared.Switches.{Switches}
use Rattle.a2_opcode.specs.declared.Row.{Row}
use Rattle.a2_bus.proofs.Relating.{IsSimulation}
use Rattle.a2_bus.specs.Devices.{Devices, key_taken, switched, after_access}
use Rattle.a2_bus.specs.Memory.{Memory, ram_end, with_ram, memory_access}
use Rattle.a2_effect.specs.Instruction.{performed}
use Rattle.a2_cpu.proofs.Simulation.{performed-alike}
use Rattle.a2_services.specs.declared.rows.Service.{Service}
use Rattle.a2_services.specs.declared.rows.Service.TheVariants.{Keyin, Getln}
use Rattle.a2_services.specs.World.{World}
use Rattle.a2_services.specs.Put.{prompt_character, after_put}
use Rattle.a2_services.specs.Reading.{reading, kept}
use Rattle.a2_services.specs.Services.{Reading, byte_of_key, after_byte, line_read, with_key_taken, cleared_to_end}
use Rattle.a2_services.specs.Services.{back, output, with_memory, with_a, with_x, effect, served}
use Rattle.a2_services.proofs.Lines.{ram_devices, put_devices, after_byte_devices}
use Rattle.a2_services.proofs.Counting.{cleared_devices, base_devices, returned_devices}
use Rattle.a2_services.proofs.Effects.{effect_devices}
use Rattle.a2_film.specs.Changes.{keys_taken}

-- devices follow from others if some waiting keys were taken and the switches set
pub record Follows (old new : Devices) : Type 0 where
  pub front : List ℕ
  pub keys : old.keys ≡ front ++ new.keys
  pub taken : (let d : Devices = record (keys_taken (length front) old) { switches = new.switches } in d) ≡ new

follows-refl : (d : Devices) → Follows d d
follows-refl d = record { front = []; keys = refl; taken = refl }

follows-same : (d e : Devices) → e ≡ d → Follows d e
follows-same d e is = subst (Follows d) (sym is) (follows-refl d)

follows-switched : (d e : Devices) (switches : Switches) → Follows d e → Follows d (record e { switches = switches })
follows-switched d e switches h = record {
  front = h.front;
  keys = h.keys;
  taken = ap (λ (x : Devices). let y : Devices = record x { switches = switches } in y) h.taken;
}

-- the first waiting key is taken, whatever the switches are
taken-switched : (d : Devices) (switches : Switches) → key_taken (record d { switches = switches }) ≡ record (key_taken d)
    { switches = switches }
taken-switched d switches = go d.keys
  where
    go : (keys : List ℕ)
        → elim keys as (λ _. Devices) [
          | [] ↦ record d { switches = switches }
          | key ∷ rest ↦ record d
              { switches = switches; keys = rest; last_key = key }
        ]
        ≡ (let x = elim keys as (λ _. Devices) [ [] ↦ d | key ∷ rest ↦ record d { keys = rest; last_key = key } ] in
        record x { switches = switches })
    go [] = refl
    go (key ∷ rest) = refl

follows-taken : (d e : Devices) → Follows d e → Follows d (key_taken e)
follows-taken d e h = go e.keys refl
  where
    After : List ℕ → Devices
    After keys = elim keys as (λ _. Devices) [ [] ↦ e | key ∷ rest ↦ record e { keys = rest; last_key = key } ]

    go : (keys : List ℕ) → e.keys ≡ keys → Follows d
        (elim keys as (λ _. Devices) [ [] ↦ e | key ∷ rest ↦ record e { keys = rest; last_key = key } ])
    go [] is = h
    go (key ∷ rest) is =
        let here = keys_taken (length h.front) d in
        let one : length (h.front ++ key ∷ []) ≡ suc (length h.front) = omega (arith, length-append {A = ℕ}) in
        record {
          front = h.front ++ key ∷ [];
          keys = h.keys ∙ ap (λ (l : List ℕ). h.front ++ l) is ∙ sym (append_assoc h.front (key ∷ []) rest);
          taken = ap (λ (n : ℕ). let x : Devices = record (keys_taken n d) { switches = e.switches } in x) one
              ∙ sym (taken-switched here e.switches)
              ∙ ap (λ (x : Devices). key_taken x) h.taken
              ∙ ap (λ (keys : List ℕ). elim keys as (λ _. Devices)
              [ [] ↦ e | key ∷ rest ↦ record e { keys = rest; last_key = key } ]) is;
        }

follows-access : (d e : Devices) (a : ℕ) → Follows d e → Follows d (after_access e a)
follows-access d e a h = go (a == 0xC010)
  where
    go : (strobe : Bool) → Follows d (if strobe then key_taken e else record e { switches = switched e.switches a })
    go true = follows-taken d e h
    go false = follows-switched d e (switched e.switches a) h

-- An instruction

record IsTaking (start left right : Memory) : Type 0 where
  same : left ≡ right
  follows : Follows start.devices right.devices

taking : (start : Memory) → IsSimulation (IsTaking start) memory_access memory_access
unfolding memory_access
taking start = record {
  same_byte = λ m n a h. ap (λ k. memory_access.byte_at k a) h.same;
  kept_by_read = λ m n a h. record {
    same = ap (λ k. memory_access.after_read k a) h.same;
    follows = at_read (nat_lt a ram_end) n a h.follows;
  };
  kept_by_write = λ m n a v h. record {
    same = ap (λ k. memory_access.after_write k a v) h.same;
    follows = at_write (nat_lt a ram_end) n a v h.follows;
  };
}
  where
    at_read : (low : Bool) (n : Memory) (a : ℕ) → Follows start.devices n.devices
        → Follows start.devices (let m : Memory = if low then n else record n { devices = after_access n.devices a } in m.devices)
    at_read true n a h = h
    at_read false n a h = follows-access start.devices n.devices a h

    at_write : (low : Bool) (n : Memory) (a v : ℕ) → Follows start.devices n.devices
        → Follows start.devices (let m : Memory =
        if low then with_ram n a v else record n { devices = after_access n.devices a } in m.devices)
    at_write true n a v h = subst (Follows start.devices) (sym (ram_devices n a v)) h
    at_write false n a v h = follows-access start.devices n.devices a h

pub performed-follows : (row : Row) (value : ℕ) (world : World)
    → Follows world.memory.devices (performed memory_access row value world).memory.devices
performed-follows row value world =
    (performed-alike (IsTaking world.memory) memory_access memory_access (taking world.memory) row value world world
    (record {
      registers = refl;
      cycles = refl;
      memory = record { same = refl; follows = follows-refl world.memory.devices };
    })).memory.follows

-- A service

kept-follows : (d : Devices) (m : Memory) (len byte : ℕ) → Follows d m.devices → Follows d (kept m len byte).devices
kept-follows d m len byte h =
    subst (Follows d) (sym (ram_devices (with_key_taken m) (0x200 + len) byte)) (follows-taken d m.devices h)

record LineFollows (d : Devices) (line : Reading) : Type 0 where
  is : Follows d line.memory.devices

line-follows : (d : Devices) (keys : List ℕ) (line : Reading) → Follows d line.memory.devices
    → LineFollows d (line_read keys line)
unfolding line_read
line-follows d [] line h = record { is = h }
line-follows d (key ∷ keys) line h = go (byte == 0x8D) (λ next. line-follows d keys next)
  where
    byte : ℕ
    byte = byte_of_key line.memory key

    noted : Memory
    noted = kept line.memory line.len byte

    stored : Follows d noted.devices
    stored = kept-follows d line.memory line.len byte h

    go : (v : Bool) → ((next : Reading) → Follows d next.memory.devices → LineFollows d (line_read keys next))
        → LineFollows d (if v then reading (after_put 0x8D (cleared_to_end noted)) line.len else line_read keys
        (after_byte byte (reading noted line.len)))
    go true rest = record {
      is = subst (Follows d) (sym (put_devices 0x8D (cleared_to_end noted) ∙ cleared_devices noted))
          stored;
    }
    go false rest =
        rest (after_byte byte (reading noted line.len))
        (subst (Follows d) (sym (after_byte_devices byte (reading noted line.len))) stored)

effect-follows : (service : Service) (w : World) → Follows w.memory.devices (effect service w).memory.devices
unfolding effect
effect-follows Keyin w = go w.memory.devices.keys
  where
    go : (keys : List ℕ)
        → Follows w.memory.devices (elim keys as (λ _. World)
        [ [] ↦ w | k ∷ rest ↦ back (with_a (0x80 + k) (with_memory (with_key_taken w.memory) w)) ]).memory.devices
    go [] = follows-refl w.memory.devices
    go (k ∷ rest) =
        subst (Follows w.memory.devices) (sym (ap (λ (x : Memory). x.devices)
        (returned_devices (with_a (0x80 + k) (with_memory (with_key_taken w.memory) w)))))
        (follows-taken w.memory.devices w.memory.devices (follows-refl w.memory.devices))
effect-follows Getln w =
    let start = after_put (prompt_character w.memory) w.memory in
    let line = line_read w.memory.devices.keys (reading start 0) in
    let follows : LineFollows w.memory.devices line =
    line-follows w.memory.devices w.memory.devices.keys (reading start 0)
    (follows-same _ _ (put_devices (prompt_character w.memory) w.memory)) in
    subst (Follows w.memory.devices)
    (sym (ap (λ (x : Memory). x.devices) (returned_devices (with_x line.len (output line.memory w))) ∙ base_devices line.memory))
    follows.is
-- a service whose row says that it needs no key does not change the devices
effect-follows service w = follows-same _ _ (effect_devices service w refl)

pub served-follows : (service : Service) (w : World) → Follows w.memory.devices (served service w).memory.devices
unfolding served
served-follows service w = effect-follows service w
