-- Steps of a machine that holds a world of a session.
use Rattle.std.specs.Prelude.{Result, Ok, Err, IsOk, OnOk, ◌↔◌}
use Rattle.std.proofs.Common.{◌≡◌, ℕ, ◌+◌, ◌<◌, ◌≤◌, List, ◌++◌, length, take, drop, Some, None, refl, sym, ap, ◌∙◌, arith}
use Rattle.a2_asm.specs.Assembled.{Assembled}
use Rattle.a2_asm.specs.Programs.{IsSound}
use Rattle.a2_bus.specs.Memory.{ram_byte}
use Rattle.a2_bus.specs.Devices.{keys_typed}
use Rattle.a2_bus.specs.View.{memory_of}
use Rattle.a2_services.specs.World.{World}
use Rattle.a2_machine.specs.ByteRun.{bytes}
use Rattle.a2_machine.specs.Guarded.{HoldsCode}
use Rattle.a2_machine.specs.Meaning.{found_at_pc, statements, stuck, next}
use Rattle.a2_machine.specs.ProgramGuard.{guard_of_program}
use Rattle.a2_machine.proofs.GuardedRuns.{next-keeps_code}
use Rattle.a2_machine.proofs.Laid.{same-code}
use Rattle.a2_machine.proofs.Runs.{stuck-alike, next-alike}
use Rattle.a2_machine.specs.State.{MachineState, Device, world_of_state}
use Rattle.a2_debug_script.specs.Worlds.{guarded_code, typed}
use Rattle.a2_debug_script.specs.declared.Typed.{Typed}
use Rattle.a2_debug_script.specs.Held.{unguarded}
use Rattle.a2_debug_script.specs.Stored.{IsAt, under_guard, byte_of_program, world_with_keys, typed_at, NoneBelow, NoneStuck}
use Rattle.a2_debug_script.proofs.Keys.{keys_at-front}
use Rattle.a2_debug_script.proofs.Worlds.{world_at-same, world_at-typed, length-world_at}

-- wherever memory holds the program's code, its bytes mean the same as its statements
module _ (program : Assembled) (sound : IsSound program) (world : World)
    (holds : HoldsCode (guard_of_program program).code (byte_of_program program) world.memory) where
  alike : found_at_pc (bytes (Some (guard_of_program program))) world ≡ found_at_pc (guarded_code program) world
  unfolding guarded_code
  alike = sym (same-code program sound world.memory holds world.registers.pc)

  pub same_stuck : stuck (bytes (Some (guard_of_program program))) world ≡ stuck (guarded_code program) world
  unfolding guarded_code statements bytes
  same_stuck = stuck-alike _ _ world refl alike

  pub same_next : next (bytes (Some (guard_of_program program))) world ≡ next (guarded_code program) world
  same_next = next-alike _ _ world alike

  pub next_holds : stuck (guarded_code program) world ≡ None
      → HoldsCode (guard_of_program program).code (byte_of_program program) (next (guarded_code program) world).memory
  unfolding guarded_code statements
  next_holds free = next-keeps_code (guarded_code program) (byte_of_program program) world holds free

-- a machine that holds a world holds any equal world
pub at_same : {program : Assembled} {v w : World} {m n : ℕ} {state : MachineState} → IsAt program v m state → v ≡ w → m ≡ n → IsAt program w n state
at_same at e f = rw (sym e, sym f) at

pub at_steps : {program : Assembled} (world : ℕ → World) {n : ℕ} (state : MachineState) → IsAt program (world n) n state
    → IsAt program (world state.steps) state.steps state
at_steps world state at = at_same at (ap world (sym at.steps)) (sym at.steps)

-- a state without its guard, and with the guard put back
pub at_unguarded : {program : Assembled} {world : World} {n : ℕ} {state : MachineState} → IsAt program world n state
    → IsAt program world n (under_guard program (unguarded state))
at_unguarded at = record { holds = at.holds; steps = at.steps; guarded = refl; sound = at.sound; code = at.code }

pub at_guarded : {program : Assembled} {world : World} {n : ℕ} (state : MachineState) → IsAt program world n (under_guard program (unguarded state))
    → state.guard ≡ Some (guard_of_program program) → IsAt program world n state
at_guarded state at guarded = record { holds = at.holds; steps = at.steps; guarded = guarded; sound = at.sound; code = at.code }

-- a world on the way is not stuck
pub front_free : (program : Assembled) (log : List Typed) (k n to : ℕ) → NoneStuck program log to → NoneBelow to (drop k log) → n < to
    → stuck (guarded_code program) (world_with_keys program (take k log) n) ≡ None
front_free program log k n to went later l =
    rw (world_at-same program (take k log) log n (λ i m. keys_at-front log k i (omega (arith, later, m, l)))) (went n l)

-- a machine at which keys were typed
abbrev pub after_keys : Device → List ℕ → Device
after_keys old keys =
    let s = old.state in
    let b = s.bus in
    record old { state = record s { bus = record b { devices = keys_typed b.devices keys } } }

-- typing changes no byte
typed_byte : (keys : List ℕ) (world : World) (a : ℕ) → ram_byte (typed keys world).memory a ≡ ram_byte world.memory a
unfolding typed ram_byte
typed_byte keys world a = grind arith

on_ok_of : {X E : Type 0} (r : Result X E) (P : Type 0) → IsOk r → OnOk r P → P
on_ok_of (Ok x) P e h = h
on_ok_of (Err x) P e h = cc

-- keys are typed at a machine that has taken no more keys than the log has, if it may take at most 4,096
module _ {program : Assembled} (log : List Typed) {n : ℕ} (old new : Device) (keys : List ℕ) {X E : Type 0} (r : Result X E)
    (at : IsAt program (world_with_keys program log n) n old.state) (few : length log + length keys ≤ 4096)
    (fits : IsOk r ↔ (length old.state.bus.devices.keys + length keys ≤ 4096)) (taken : OnOk r (new ≡ after_keys old keys)) where
  pub typed_is : new ≡ after_keys old keys
  unfolding memory_of
  typed_is =
      let seen : length (world_of_state old.state).memory.devices.keys ≡ length (world_with_keys program log n).memory.devices.keys =
      ap (λ (w : World). length w.memory.devices.keys) at.holds in
      on_ok_of r _ (fits.1 (omega (arith, few, length-world_at program log n, seen))) taken

  pub typed_on : IsAt program (world_with_keys program (log ++ typed_at n keys) n) n new.state
  unfolding memory_of typed
  typed_on = rw (typed_is, world_at-typed) (record {
    holds = ap (typed keys) at.holds;
    steps = at.steps;
    guarded = at.guarded;
    sound = at.sound;
    code = λ a among. typed_byte keys (world_with_keys program log n) a ∙ at.code a among;
  })
