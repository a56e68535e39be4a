-- The frames of a film show the worlds of its run.
use Rattle.std.specs.Prelude.{◌≡◌, ◌≢◌, ◌⊎◌, ℕ, zero, suc, ◌+◌, ◌-◌, ◌<◌, ◌≤◌, ◌==◌, nat_lt, ◌&&◌, Bool, true, false}
use Rattle.std.specs.Prelude.{if◌then◌else◌, List, [], ◌∷◌, length, Option, Some, None, unwrap_or, is_some, Result, Ok, Err, refl}
use Rattle.std.proofs.Common.{sym, ap, ap₂, ◌∙◌, subst, arith, inl, inr, true≢false, length-append}
use Rattle.std.proofs.Math.Bool.{beq}
use Rattle.std.proofs.lemmas.Bool.{eqb-true, and_parts}
use Rattle.std.proofs.lemmas.Bool.Decides.{nat_tests}
use Rattle.a2_page.specs.declared.Switches.{Switches}
use Rattle.a2_text.specs.Bytes.{is_among}
use Rattle.a2_opcode.specs.Encoding.{Fetched, no_byte, undocumented, instruction, fetched}
use Rattle.a2_bus.specs.Devices.{Devices, keys_typed}
use Rattle.a2_bus.specs.Memory.{ram_byte, ram_end, peek, memory_access}
use Rattle.a2_bus.proofs.Frame.{changed_by_writes}
use Rattle.a2_cpu.specs.BusStep.{Refusal, refusal_of}
use Rattle.a2_effect.specs.Instruction.{performed}
use Rattle.a2_effect.specs.Registers.{Registers, StatusFlags, byte_of_flags, flags_of_byte}
use Rattle.a2_cpu.specs.Stores.{stores_of, IsNotIn}
use Rattle.a2_cpu.specs.StepStores.{none_if, stores_at}
use Rattle.a2_cpu.proofs.StoresLemmas.{performed-stores}
use Rattle.a2_services.specs.declared.rows.Service.{Service}
use Rattle.a2_services.specs.Services.{service_at, served}
use Rattle.a2_services.specs.World.{World}
use Rattle.a2_machine.specs.declared.causes.Cause.{Cause}
use Rattle.a2_machine.specs.declared.causes.Cause.TheVariants.{Returned, CodeWrite, OffStatement}
use Rattle.a2_machine.specs.ByteRun.{Guard, bytes, decoded_or_cause}
use Rattle.a2_machine.specs.Meaning.{Code, Decoded, cause_of_cpu_error, instruction_cause, service_cause, return_address, stuck_at}
use Rattle.a2_machine.specs.Meaning.{next_at, found_at_pc, stuck, next, statements}
use Rattle.a2_machine.specs.Guarded.{HoldsCode, BytesMatchStatements}
use Rattle.a2_machine.specs.ProgramGuard.{guard_of_program}
use Rattle.a2_machine.proofs.GuardedRuns.{next-keeps_code}
use Rattle.a2_machine.proofs.Runs.{stuck-alike, next-alike}
use Rattle.a2_machine.proofs.Laid.{laid_by, start-holds, same-code}
use Rattle.a2_opcode.specs.declared.Instr.{Instr}
use Rattle.a2_asm.specs.Assembled.{Assembled}
use Rattle.a2_asm.specs.Programs.{instr_at, IsSound}
use Rattle.a2_run.specs.Meaning.{code_of_run, start_of_run}
use Rattle.a2_run.specs.Started.{guard_of_run}
use Rattle.a2_run.proofs.Runs.{sound-of}
use Rattle.a2_timed_keys.specs.declared.strokes.Typed.{Typed}
use Rattle.a2_timed_keys.specs.Typed.{typed, keys_at, world_before_keys, world_with_keys}
use Rattle.a2_film.specs.Changes.{Course, Store, changed, switch_digit, switches_of, bytes_at, differing, stored, change_of, Frame}
use Rattle.a2_film.specs.Changes.{keys_taken, with_stores, applied, frame_of, frame_at}
use Rattle.a2_film.specs.Laws.{Shows, FramesShowTheRun}
use Rattle.a2_film.proofs.Keys.{typed-byte}
use Rattle.a2_film.proofs.Following.{Follows, performed-follows, served-follows}
use Rattle.a2_film.proofs.Stepping.{stored-by_instruction, stored-by_service}

-- What is written if it changed

unwrap-changed : (old new is : ℕ) → is ≡ old → unwrap_or (changed old new) is ≡ new
unwrap-changed old new is e = go (old == new) refl
  where
    go : (v : Bool) → (old == new) ≡ v → unwrap_or (if v then None else Some new) is ≡ new
    go true h = e ∙ eqb-true old new h
    go false h = refl

-- a test that holds for both truth values holds for each
abbrev both : (Bool → Bool) → Bool
both p = p true && p false

both_at : (p : Bool → Bool) → both p ≡ true → (b : Bool) → p b ≡ true
both_at p h true = (and_parts (p true) (p false) h).0
both_at p h false = (and_parts (p true) (p false) h).1

beq_same : (a b : Bool) → beq a b ≡ true → a ≡ b
beq_same true true h = refl
beq_same true false h = cc
beq_same false true h = cc
beq_same false false h = refl

abbrev switches : Bool → Bool → Bool → Bool → Switches
switches t m p h = record { text = t; mixed = m; page2 = p; hires = h }

switches-round : (t m p h : Bool) → switches_of (switch_digit (switches t m p h)) ≡ switches t m p h
switches-round true true true true = refl
switches-round true true true false = refl
switches-round true true false true = refl
switches-round true true false false = refl
switches-round true false true true = refl
switches-round true false true false = refl
switches-round true false false true = refl
switches-round true false false false = refl
switches-round false true true true = refl
switches-round false true true false = refl
switches-round false true false true = refl
switches-round false true false false = refl
switches-round false false true true = refl
switches-round false false true false = refl
switches-round false false false true = refl
switches-round false false false false = refl

abbrev flags : Bool → Bool → Bool → Bool → Bool → Bool → StatusFlags
flags n v d i z c = record { n = n; v = v; d = d; i = i; z = z; c = c }

abbrev same : StatusFlags → StatusFlags → Bool
same f g = beq f.n g.n && beq f.v g.v && beq f.d g.d && beq f.i g.i && beq f.z g.z && beq f.c g.c

same_is : (f g : StatusFlags) → same f g ≡ true → f ≡ g
same_is f g h =
    let h6 = and_parts _ (beq f.c g.c) h in
    let h5 = and_parts _ (beq f.z g.z) h6.0 in
    let h4 = and_parts _ (beq f.i g.i) h5.0 in
    let h3 = and_parts _ (beq f.d g.d) h4.0 in
    let h2 = and_parts (beq f.n g.n) (beq f.v g.v) h3.0 in
    let n = beq_same f.n g.n h2.0 in
    let v = beq_same f.v g.v h2.1 in
    let d = beq_same f.d g.d h3.1 in
    let i = beq_same f.i g.i h4.1 in
    let z = beq_same f.z g.z h5.1 in
    let c = beq_same f.c g.c h6.1 in
    λ t. record { n = n t; v = v t; d = d t; i = i t; z = z t; c = c t }

-- a byte of flags gives the same flags back
abbrev gives_back : Bool → Bool → Bool → Bool → Bool → Bool → Bool
gives_back n v d i z c = same (flags_of_byte (byte_of_flags (flags n v d i z c))) (flags n v d i z c)

all_given : both (λ n. both (λ v. both (λ d. both (λ i. both (λ z. both (gives_back n v d i z)))))) ≡ true
all_given = refl

flags-round : (f : StatusFlags) → flags_of_byte (byte_of_flags f) ≡ f
flags-round f =
    same_is (flags_of_byte (byte_of_flags f)) f (
    both_at (gives_back f.n f.v f.d f.i f.z) (
    both_at (λ z. both (gives_back f.n f.v f.d f.i z)) (
    both_at (λ i. both (λ z. both (gives_back f.n f.v f.d i z))) (
    both_at (λ d. both (λ i. both (λ z. both (gives_back f.n f.v d i z)))) (
    both_at (λ v. both (λ d. both (λ i. both (λ z. both (gives_back f.n v d i z))))) (
    both_at (λ n. both (λ v. both (λ d. both (λ i. both (λ z. both (gives_back n v d i z)))))) all_given f.n)
    f.v) f.d) f.i) f.z) f.c)

-- Stores

split-at : (a b : ℕ) → (a ≡ b) ⊎ (a ≢ b)
split-at a b = grind (arith, nat_tests)

-- a byte at an address, after a store there or elsewhere
store-here : (bytes : ℕ → ℕ) (a b byte : ℕ) → a ≡ b → (if a == b then byte else bytes a) ≡ byte
store-here bytes a b byte is = let e : (a == b) ≡ true = grind (arith, nat_tests, is) in ap (λ v. if v then byte else bytes a) e

store-elsewhere : (bytes : ℕ → ℕ) (a b byte : ℕ) → a ≢ b → (if a == b then byte else bytes a) ≡ bytes a
store-elsewhere bytes a b byte other = let e : (a == b) ≡ false = grind (arith, nat_tests, other) in
    ap (λ v. if v then byte else bytes a) e

-- after stores at some addresses all bytes are the new ones, if those at the other addresses already were
settled-listed : (new : ℕ → ℕ) (addresses : List ℕ) (bytes : ℕ → ℕ) (a : ℕ) → a < ram_end
    → (IsNotIn a addresses → bytes a ≡ new a)
    → with_stores (bytes_at new addresses) bytes a ≡ new a
settled-listed new [] bytes a low h = h tt
settled-listed new (b ∷ others) bytes a low h = go (nat_lt b ram_end) refl (λ now. settled-listed new others now a low)
  where
    put : ℕ → ℕ
    put k = if k == b then new b else bytes k

    there : (a ≡ b) ⊎ (a ≢ b) → IsNotIn a others → put a ≡ new a
    there (inl is) free = store-here bytes a b (new b) is ∙ ap new (sym is)
    there (inr other) free = store-elsewhere bytes a b (new b) other ∙ h (other, free)

    go : (v : Bool) → nat_lt b ram_end ≡ v → ((now : ℕ → ℕ) → (IsNotIn a others → now a ≡ new a)
        → with_stores (bytes_at new others) now a ≡ new a)
        → with_stores (if v then (b, new b) ∷ bytes_at new others else bytes_at new others) bytes a ≡ new a
    go true in_ram rest = rest (λ k. if k == b then new b else bytes k) (there (split-at a b))
    go false following rest =
        let other : a ≢ b = λ is. let bad : ⊥ = grind (arith, nat_tests, following, low, is) in bad in
        rest bytes (λ free. h (other, free))

-- after the stores of the bytes that differ, all bytes are the new ones
settled-differing : (old new : ℕ → ℕ) (n from : ℕ) (bytes : ℕ → ℕ) (a : ℕ) → a < from + n → (from ≤ a → bytes a ≡ old a)
    → (a < from → bytes a ≡ new a)
    → with_stores (differing old new from n) bytes a ≡ new a
unfolding differing
settled-differing old new zero from bytes a low above below = below (omega (arith, low))
settled-differing old new (suc n) from bytes a low above below =
    go (old from == new from) refl (λ now. settled-differing old new n (from + 1) now a (omega (arith, low)))
  where
    put : ℕ → ℕ
    put k = if k == from then new from else bytes k

    order : (a ≢ from) → a < from + 1 → a < from
    order other h = grind (arith, other, h)

    kept : old from ≡ new from → (a ≡ from) ⊎ (a ≢ from) → a < from + 1 → bytes a ≡ new a
    kept equal (inl is) h = above (omega (arith, is)) ∙ ap old is ∙ equal ∙ ap new (sym is)
    kept equal (inr other) h = below (order other h)

    written : (a ≡ from) ⊎ (a ≢ from) → a < from + 1 → put a ≡ new a
    written (inl is) h = store-here bytes a from (new from) is ∙ ap new (sym is)
    written (inr other) h = store-elsewhere bytes a from (new from) other ∙ below (order other h)

    beyond : from + 1 ≤ a → put a ≡ old a
    beyond h =
        let other : a ≢ from = λ is. let bad : ⊥ = omega (arith, h, is) in bad in
        store-elsewhere bytes a from (new from) other ∙ above (omega (arith, h))

    go : (v : Bool) → (old from == new from) ≡ v
        → ((now : ℕ → ℕ) → (from + 1 ≤ a → now a ≡ old a) → (a < from + 1 → now a ≡ new a)
        → with_stores (differing old new (from + 1) n) now a ≡ new a)
        → with_stores (if v then differing old new (from + 1) n else (from, new from) ∷ differing old new (from + 1) n) bytes
        a ≡ new a
    go true is rest = rest bytes (λ h. above (omega (arith, h))) (kept (eqb-true (old from) (new from) is) (split-at a from))
    go false is rest = rest (λ k. if k == from then new from else bytes k) beyond (written (split-at a from))

-- What a step is

-- a service was called
record ServiceStep (code : Code) (world : World) : Type 0 where
  service : Service
  there : service_at world.registers.pc ≡ Some service
  is : next code world ≡ served service world

-- an instruction was executed
record InstructionStep (code : Code) (world : World) : Type 0 where
  decoded : Decoded
  no_service : service_at world.registers.pc ≡ None
  found : found_at_pc code world ≡ Ok decoded
  accepted : refusal_of decoded.row.mnemonic world.registers.flags ≡ None
  is : next code world ≡ performed memory_access decoded.row decoded.value world

none-some : {X : Type 0} (x : X) → Some x ≡ None → ⊥
none-some x e = true≢false (ap is_some e)

step-is : (code : Code) (world : World) → stuck code world ≡ None → ServiceStep code world ⊎ InstructionStep code world
unfolding stuck stuck_at next next_at
step-is code world free = at_return (world.registers.pc == return_address) free
  where
    refusal : (decoded : Decoded) (why : Option Refusal) → refusal_of decoded.row.mnemonic world.registers.flags ≡ why
        → (elim why as (λ _. Option Cause) [
          | Some why ↦ Some (cause_of_cpu_error why)
          | None ↦ if Rattle.std.specs.List.list_any (is_among code.protected)
              (stores_of memory_access decoded.row decoded.value world) then Some CodeWrite else None
        ]) ≡ None
        → refusal_of decoded.row.mnemonic world.registers.flags ≡ None
    refusal decoded None is free = is
    refusal decoded (Some why) is free = absurd (none-some (cause_of_cpu_error why) free)

    at_service : (service : Option Service) (at : Result Decoded Cause) → service_at world.registers.pc ≡ service
        → code.instruction_at world.memory world.registers.pc ≡ at
        → (elim service as (λ _. Option Cause) [
          | Some service ↦ service_cause code.protected service world
          | None ↦ elim at as (λ _. Option Cause) [
            | Err cause ↦ Some cause
            | Ok decoded ↦ instruction_cause code.protected decoded
                world
          ]
        ]) ≡ None
        → ServiceStep code world ⊎ InstructionStep code world
    at_service (Some service) at is e free =
        inl (record {
          service = service;
          there = is;
          is = ap (λ (s : Option Service). elim s as (λ _. World) [
            | Some service ↦ served service world
            | None ↦ elim (code.instruction_at world.memory world.registers.pc) as (λ _. World)
                [ Err cause ↦ world | Ok decoded ↦ performed memory_access decoded.row decoded.value world ]
          ]) is;
        })
    at_service None (Err cause) is e free = absurd (none-some cause free)
    at_service None (Ok decoded) is e free =
        inr (record {
          decoded = decoded;
          no_service = is;
          found = e;
          accepted = refusal decoded (refusal_of decoded.row.mnemonic world.registers.flags) refl free;
          is = ap₂ (λ (s : Option Service) (f : Result Decoded Cause). elim s as (λ _. World) [
            | Some service ↦ served service world
            | None ↦ elim f as (λ _. World) [
              | Err cause ↦ world
              | Ok decoded ↦ performed memory_access decoded.row decoded.value
                  world
            ]
          ]) is e;
        })

    at_return : (v : Bool)
        → (if v then Some Returned
        else elim (service_at world.registers.pc) as (λ _. Option Cause) [
          | Some service ↦ service_cause code.protected service world
          | None ↦ elim (code.instruction_at world.memory world.registers.pc) as (λ _. Option Cause)
              [ Err cause ↦ Some cause | Ok decoded ↦ instruction_cause code.protected decoded world ]
        ]) ≡ None
        → ServiceStep code world ⊎ InstructionStep code world
    at_return true free = absurd (none-some Returned free)
    at_return false free = at_service (service_at world.registers.pc) (code.instruction_at world.memory world.registers.pc) refl
        refl free

-- an instruction that a run of bytes finds is in memory
decoded-is : (f : Fetched) (decoded : Decoded) → decoded_or_cause f ≡ Ok decoded → f ≡ instruction decoded.row decoded.value
decoded-is no_byte decoded e = cc
decoded-is undocumented decoded e = cc
decoded-is (instruction row value) decoded e =
    let d : Decoded = record { row = row; value = value } in
    let is : d ≡ decoded = cc in
    ap (λ (x : Decoded). instruction x.row x.value) is

found-fetched : (guard : Option Guard) (world : World) (decoded : Decoded) → found_at_pc (bytes guard) world ≡ Ok decoded
    → fetched (peek world.memory) world.registers.pc ≡ instruction decoded.row decoded.value
unfolding bytes
found-fetched None world decoded e = decoded-is (fetched (peek world.memory) world.registers.pc) decoded e
found-fetched (Some guard) world decoded e = go (is_among guard.starts world.registers.pc) e
  where
    go : (v : Bool) → (if v then decoded_or_cause (fetched (peek world.memory) world.registers.pc) else Err OffStatement) ≡ Ok
        decoded
        → fetched (peek world.memory) world.registers.pc ≡ instruction decoded.row decoded.value
    go true e = decoded-is (fetched (peek world.memory) world.registers.pc) decoded e
    go false e = cc

-- what a frame needs to know of a step
record IsStepTo (before after : World) : Type 0 where
  cycles : before.cycles ≤ after.cycles
  follows : Follows before.memory.devices after.memory.devices
  settled : (frame_bytes : ℕ → ℕ) (a : ℕ) → a < ram_end → frame_bytes a ≡ ram_byte before.memory a
      → with_stores (stored before after) frame_bytes a ≡ ram_byte after.memory a

performed-cycles : (decoded : Decoded) (world : World)
    → world.cycles ≤ (performed memory_access decoded.row decoded.value world).cycles
unfolding performed
performed-cycles decoded world = omega arith

served-cycles : (service : Service) (world : World) → world.cycles ≤ (served service world).cycles
unfolding served
served-cycles service world = omega arith

stores-accepted : (found : Fetched) (decoded : Decoded) (world : World) → found ≡ instruction decoded.row decoded.value
    → refusal_of decoded.row.mnemonic world.registers.flags ≡ None
    → stores_at memory_access found world ≡ stores_of memory_access decoded.row decoded.value world
unfolding stores_at
stores-accepted found decoded world is accepted =
    ap (λ (f : Fetched). stores_at memory_access f world) is
    ∙ ap (λ (why : Option Refusal). none_if why (stores_of memory_access decoded.row decoded.value world)) accepted

instruction-to : (guard : Option Guard) (before : World) → InstructionStep (bytes guard) before
    → IsStepTo before (next (bytes guard) before)
instruction-to guard before h =
    let decoded = h.decoded in
    let done = performed memory_access decoded.row decoded.value before in
    let P : World → Type 0 = λ w. IsStepTo before w in
    subst P (sym h.is) (record {
      cycles = performed-cycles decoded before;
      follows = performed-follows decoded.row decoded.value before;
      settled = λ frame_bytes a low is.
          ap (λ (l : List Store). with_stores l frame_bytes a)
          (stored-by_instruction before done (ap is_some h.no_service)
          ∙ ap (bytes_at (ram_byte done.memory))
          (stores-accepted (fetched (peek before.memory) before.registers.pc) decoded before
          (found-fetched guard before decoded h.found) h.accepted))
          ∙ settled-listed (ram_byte done.memory) (stores_of memory_access decoded.row decoded.value before) frame_bytes a low
          (λ free. is ∙ sym (performed-stores memory_access ram_byte changed_by_writes decoded.row decoded.value before a free));
    })

service-to : (code : Code) (before : World) → ServiceStep code before → IsStepTo before (next code before)
service-to code before h =
    let done = served h.service before in
    let P : World → Type 0 = λ w. IsStepTo before w in
    subst P (sym h.is) (record {
      cycles = served-cycles h.service before;
      follows = served-follows h.service before;
      settled = λ frame_bytes a low is.
          ap (λ (l : List Store). with_stores l frame_bytes a) (stored-by_service before done (ap is_some h.there))
          ∙ settled-differing (ram_byte before.memory) (ram_byte done.memory) ram_end 0 frame_bytes a (omega (arith, low))
          (λ _. is)
          (λ under. absurd (omega (arith, under)));
    })

step-to : (guard : Option Guard) (before : World) → stuck (bytes guard) before ≡ None
    → IsStepTo before (next (bytes guard) before)
step-to guard before free = go (step-is (bytes guard) before free)
  where
    go : ServiceStep (bytes guard) before ⊎ InstructionStep (bytes guard) before → IsStepTo before (next (bytes guard) before)
    go (inl h) = service-to (bytes guard) before h
    go (inr h) = instruction-to guard before h

-- what a step stores is the same if keys are typed after it
stored-typed : (before between after : World) (keys : List ℕ) → after ≡ typed keys between → stored before after ≡ stored before between
unfolding stored
stored-typed before between after keys is = go (service_at before.registers.pc)
  where
    same : ram_byte after.memory ≡ ram_byte between.memory
    same = ap (λ (w : World). ram_byte w.memory) is ∙ (λ i a. typed-byte keys between a i)

    go : (found : Option Service) → (elim found as (λ _. List Store) [
      | Some service ↦ differing (ram_byte before.memory) (ram_byte after.memory) 0 ram_end
      | None ↦ bytes_at (ram_byte after.memory)
          (stores_at memory_access (fetched (peek before.memory) before.registers.pc) before)
    ]) ≡ (elim found as (λ _. List Store) [
      | Some service ↦ differing (ram_byte before.memory) (ram_byte between.memory) 0 ram_end
      | None ↦ bytes_at (ram_byte between.memory)
          (stores_at memory_access (fetched (peek before.memory) before.registers.pc) before)
    ])
    go (Some service) = ap (λ (f : ℕ → ℕ). differing (ram_byte before.memory) f 0 ram_end) same
    go None = ap (λ (f : ℕ → ℕ). bytes_at f (stores_at memory_access (fetched (peek before.memory) before.registers.pc) before)) same

-- A change applied to a frame

-- the devices after a step, and after keys are typed there
devices-shown : (was frame is after : Devices) (typed : List ℕ) → frame ≡ was → Follows was is → after ≡ keys_typed is typed
    → keys_typed (let d : Devices = record (keys_taken (length was.keys - (length after.keys - length typed)) frame) {
      switches = switches_of (unwrap_or (changed (switch_digit was.switches) (switch_digit after.switches))
          (switch_digit frame.switches));
    } in d) typed ≡ after
devices-shown was frame is after typed e h later =
    let long : length after.keys ≡ length is.keys + length typed =
    ap (λ (d : Devices). length d.keys) later ∙ length-append is.keys typed in
    let count : length was.keys - (length after.keys - length typed) ≡ length h.front =
    omega (arith, long, ap (λ (l : List ℕ). length l) h.keys, length-append h.front is.keys) in
    let same : after.switches ≡ is.switches = ap (λ (d : Devices). d.switches) later in
    let switched : switches_of (unwrap_or (changed (switch_digit was.switches) (switch_digit after.switches))
    (switch_digit frame.switches)) ≡ is.switches =
    ap switches_of (unwrap-changed (switch_digit was.switches) (switch_digit after.switches) (switch_digit frame.switches)
    (ap (λ (d : Devices). switch_digit d.switches) e) ∙ ap switch_digit same)
    ∙ switches-round is.switches.text is.switches.mixed is.switches.page2 is.switches.hires in
    ap (λ (d : Devices). keys_typed d typed)
    ((λ i. let d : Devices = record (keys_taken (count i) (e i)) { switches = switched i } in d) ∙ h.taken)
    ∙ sym later

registers-shown : (was frame is : Registers) → frame ≡ was
    → (let r : Registers = record {
      a = unwrap_or (changed was.a is.a) frame.a;
      x = unwrap_or (changed was.x is.x) frame.x;
      y = unwrap_or (changed was.y is.y) frame.y;
      s = unwrap_or (changed was.s is.s) frame.s;
      pc = is.pc;
      flags = flags_of_byte (unwrap_or (changed (byte_of_flags was.flags) (byte_of_flags is.flags)) (byte_of_flags frame.flags));
    } in r) ≡ is
registers-shown was frame is e =
    let a = unwrap-changed was.a is.a frame.a (ap (λ (r : Registers). r.a) e) in
    let x = unwrap-changed was.x is.x frame.x (ap (λ (r : Registers). r.x) e) in
    let y = unwrap-changed was.y is.y frame.y (ap (λ (r : Registers). r.y) e) in
    let s = unwrap-changed was.s is.s frame.s (ap (λ (r : Registers). r.s) e) in
    let f = ap flags_of_byte (unwrap-changed (byte_of_flags was.flags) (byte_of_flags is.flags) (byte_of_flags frame.flags)
    (ap (λ (r : Registers). byte_of_flags r.flags) e))
    ∙ flags-round is.flags in
    λ i. record { a = a i; x = x i; y = y i; s = s i; pc = is.pc; flags = f i }

-- the world with the keys that are typed after a step
record IsTypedTo (before between after : World) (keys : List ℕ) : Type 0 where
  step : IsStepTo before between
  after_is : after ≡ typed keys between

applied-shows : (before between after : World) (keys : List ℕ) (frame : Frame) → Shows frame before → IsTypedTo before between after keys
    → Shows (applied (change_of before keys after) frame) after
unfolding typed
applied-shows before between after keys frame shown to = record {
  registers = registers-shown before.registers frame.registers after.registers shown.registers;
  bytes = λ a low. ap (λ (l : List Store). with_stores l frame.bytes a) (stored-typed before between after keys to.after_is)
      ∙ to.step.settled frame.bytes a low (shown.bytes a low)
      ∙ sym (typed-byte keys between a) ∙ ap (λ (w : World). ram_byte w.memory a) (sym to.after_is);
  devices = devices-shown before.memory.devices frame.devices between.memory.devices after.memory.devices keys shown.devices
      to.step.follows (ap (λ (w : World). w.memory.devices) to.after_is);
  cycles = omega (arith, shown.cycles, to.step.cycles, ap (λ (w : World). w.cycles) to.after_is);
}

-- The frames of a run

-- so many steps of a run after the first so many are steps of bytes, if none of its worlds is stuck
abbrev pub AreSteps : Option Guard → Course → ℕ → Type 0
AreSteps guard course n =
    (k : ℕ) → k < n → (stuck (bytes guard) (course.world k) ≡ None)
    × (course.world (suc k) ≡ typed (course.typed (suc k)) (next (bytes guard) (course.world k)))

pub frames-show : (guard : Option Guard) (course : Course) (from n : ℕ) → AreSteps guard course (from + n)
    → Shows (frame_at course from n) (course.world (from + n))
frames-show guard course from zero are =
    let all : from ≡ from + zero = omega arith in
    subst (λ (k : ℕ). Shows (frame_of (course.world from)) (course.world k)) all
    (record { registers = refl; bytes = λ a low. refl; devices = refl; cycles = refl })
frames-show guard course from (suc n) are =
    let k = from + n in
    let more : suc k ≡ from + suc n = omega arith in
    let step = are k (omega arith) in
    subst (λ (m : ℕ). Shows (frame_at course from (suc n)) (course.world m)) more
    (applied-shows (course.world k) (next (bytes guard) (course.world k)) (course.world (suc k)) (course.typed (suc k))
    (frame_at course from n)
    (frames-show guard course from n (λ m low. are m (omega (arith, low))))
    (record { step = step-to guard (course.world k) step.0; after_is = step.1 }))

-- A run of statements is one of bytes

module _ (statement_at : ℕ → Option Instr) (guard : Guard) (laid : ℕ → ℕ) (start : World) (log : List Typed)
    (says : BytesMatchStatements statement_at guard laid) (starts : HoldsCode guard.code laid start.memory) where
  abbrev s : Code
  s = statements statement_at guard.code

  abbrev b : Code
  b = bytes (Some guard)

  abbrev world : ℕ → World
  world n = world_with_keys s start log n

  holds-typed : (keys : List ℕ) (w : World) → HoldsCode guard.code laid w.memory → HoldsCode guard.code laid (typed keys w).memory
  holds-typed keys w h a among = typed-byte keys w a ∙ h a among

  holds : (n : ℕ) → ((k : ℕ) → k < n → stuck s (world k) ≡ None) → HoldsCode guard.code laid (world n).memory
  unfolding world_with_keys world_before_keys statements
  holds zero free = holds-typed (keys_at log zero) start starts
  holds (suc n) free =
      holds-typed (keys_at log (suc n)) (next s (world n))
      (next-keeps_code (statements statement_at guard.code) laid (world n) (holds n (λ k low. free k (omega (arith, low))))
      (free n (omega arith)))

  statement-steps : (n : ℕ) → ((k : ℕ) → k < n → stuck s (world k) ≡ None)
      → AreSteps (Some guard) (record { world = world; typed = keys_at log }) n
  unfolding world_with_keys world_before_keys statements bytes
  statement-steps n free k low =
      let here = holds k (λ m less. free m (omega (arith, less, low))) in
      let same = says (world k).memory here (world k).registers.pc in (
        sym (stuck-alike (statements statement_at guard.code) (bytes (Some guard)) (world k) refl same) ∙ free k low,
        ap (typed (keys_at log (suc k))) (next-alike (statements statement_at guard.code) (bytes (Some guard)) (world k) same),
      )

run-steps : (free : Bool) (program : Assembled) (keys : List ℕ) (log : List Typed) (n : ℕ) → IsSound program
    → ((k : ℕ) → k < n → stuck (code_of_run free program) (world_with_keys (code_of_run free program) (start_of_run program keys) log k) ≡ None)
    → AreSteps (guard_of_run free program)
    (record { world = world_with_keys (code_of_run free program) (start_of_run program keys) log; typed = keys_at log }) n
unfolding world_with_keys world_before_keys
run-steps true program keys log n sound free = λ k low. (free k low, refl)
run-steps false program keys log n sound free =
    statement-steps (instr_at program.statements) (guard_of_program program) (laid_by program) (start_of_run program keys) log
    (same-code program sound) (start-holds program keys sound) n free

pub frames_show_the_run : FramesShowTheRun
frames_show_the_run text keys log limit free program end made is from n within =
    frames-show (guard_of_run free program)
    (record { world = world_with_keys (code_of_run free program) (start_of_run program keys) log; typed = keys_at log }) from n
    (run-steps free program keys log (from + n) (sound-of text program made) (λ k low. is.first k (omega (arith, low, within))))
