-- A register that no step uses or sets is unchanged.
use Rattle.std.specs.Prelude.{◌≡◌, ◌<◌, ℕ, zero, suc, ◌+◌, ◌%◌, ◌||◌, Bool, true, false, not, IsTrue, if◌then◌else◌, Option, Some, None, Result, Ok, Err, refl}
use Rattle.std.specs.List.{list_any}
use Rattle.std.proofs.Common.{sym, ap, ◌∙◌, subst, arith, true≢false}
use Rattle.a2_opcode.specs.declared.Row.{Row}
use Rattle.a2_opcode.specs.declared.Mode.{Mode}
use Rattle.a2_opcode.specs.declared.Mode.TheVariants.{Accumulator}
use Rattle.a2_opcode.specs.declared.Mnemonic.{Mnemonic}
use Rattle.a2_opcode.specs.declared.Mnemonic.TheVariants.{Adc, And, Dex, Dey, Eor, Inx, Iny, Lda, Ldx, Ldy, Ora, Pla, Sbc, Tax, Tay, Tsx, Txa, Tya}
use Rattle.a2_bus.specs.Memory.{memory_access}
use Rattle.a2_effect.specs.Registers.{Registers, StatusFlags}
use Rattle.a2_effect.specs.Place.{Place, accumulator, address, pointer, place_of}
use Rattle.a2_effect.specs.Effect.{Effect, Replacement, sets, takes, replaces, stores, pushes, pulls, branches, jumps, calls, returns, returns_from_interrupt, breaks, effect_of}
use Rattle.a2_effect.specs.Instruction.{after_effect, called, called_place, branched_to, jumped, jumped_through, next_address, operand_byte, performed, pulled, replaced_registers, returned, returned_from_interrupt, with_pc}
use Rattle.a2_services.specs.World.{World}
use Rattle.a2_services.specs.declared.rows.Service.{Service}
use Rattle.a2_services.specs.Services.{fits, service_at}
use Rattle.a2_machine.specs.declared.causes.Cause.{Cause}
use Rattle.a2_machine.specs.Meaning.{Code, Decoded, found_at_pc, next, stuck, world_at}
use Rattle.a2_footprint.specs.declared.Part.{Part}
use Rattle.a2_footprint.specs.declared.Part.TheVariants.{A as part_a, X as part_x, Y as part_y}
use Rattle.a2_footprint.specs.InstructionParts.{needs, mode_needs, sets_parts}
use Rattle.a2_footprint.specs.Reads.{AgreeOn, Knows}
use Rattle.a2_footprint.specs.Parts.{held, is_part}
use Rattle.a2_footprint.specs.Runs.{RunReads, StepReads, bytes_known_after}
use Rattle.a2_footprint.specs.Services.{is_keyless}
use Rattle.a2_footprint.specs.Uses.{Near, RunNeeds, found_needs, found_sets, step_needs, step_sets, parts_known_after}
use Rattle.a2_footprint.specs.Stays.{is_register, UnknownRegistersStay}
use Rattle.a2_footprint.proofs.Nearing.{knows-append}
use Rattle.a2_footprint.proofs.Running.{done_at, found_there, keyless_there, needs_at, next_is, next_served, not_home, not_stuck, runs, sets_at, step as one_step, stuck_served}
use Rattle.a2_footprint.proofs.Serving.{keeping}

-- the registers that an effect leaves, given a byte that it may take; flags, S and PC of stack operations are left out
changed : Effect → ℕ → Registers → Registers
changed (sets change) byte r = change r
changed (takes change) byte r = change byte r
changed (replaces change) byte r = record r { flags = (change byte r.flags).flags }
changed (pulls change) byte r = change byte r
changed _ byte r = r

-- a mnemonic keeps each register that it does not set
keeps : (part : Part) (m : Mnemonic) (byte : ℕ) (r : Registers) → is_register part ≡ true → list_any (is_part part) (sets_parts m) ≡ false
    → held part (changed (effect_of m) byte r) ≡ held part r
unfolding changed effect_of sets_parts
keeps part_a Adc byte r is bad = absurd (true≢false bad)
keeps part_a And byte r is bad = absurd (true≢false bad)
keeps part_a Eor byte r is bad = absurd (true≢false bad)
keeps part_a Lda byte r is bad = absurd (true≢false bad)
keeps part_a Ora byte r is bad = absurd (true≢false bad)
keeps part_a Pla byte r is bad = absurd (true≢false bad)
keeps part_a Sbc byte r is bad = absurd (true≢false bad)
keeps part_a Txa byte r is bad = absurd (true≢false bad)
keeps part_a Tya byte r is bad = absurd (true≢false bad)
keeps part_a m byte r is other = refl
keeps part_x Dex byte r is bad = absurd (true≢false bad)
keeps part_x Inx byte r is bad = absurd (true≢false bad)
keeps part_x Ldx byte r is bad = absurd (true≢false bad)
keeps part_x Tax byte r is bad = absurd (true≢false bad)
keeps part_x Tsx byte r is bad = absurd (true≢false bad)
keeps part_x m byte r is other = refl
keeps part_y Dey byte r is bad = absurd (true≢false bad)
keeps part_y Iny byte r is bad = absurd (true≢false bad)
keeps part_y Ldy byte r is bad = absurd (true≢false bad)
keeps part_y Tay byte r is bad = absurd (true≢false bad)
keeps part_y m byte r is other = refl
keeps part m byte r bad other = absurd (true≢false (sym bad))

-- S, PC and the flags are not such registers
moved : (part : Part) (r : Registers) (s pc : ℕ) → held part (record r { s = s; pc = pc }) ≡ held part r
moved part_a r s pc = refl
moved part r s pc = refl

flagged : (part : Part) (r : Registers) (s pc : ℕ) (flags : StatusFlags) → is_register part ≡ true
    → held part (record r { s = s; pc = pc; flags = flags }) ≡ held part r
flagged part_a r s pc flags is = refl
flagged part_x r s pc flags is = refl
flagged part_y r s pc flags is = refl
flagged part r s pc flags bad = absurd (true≢false (sym bad))

-- the operand that is replaced is not in this register; of the registers, only A can hold it
IsFree : Part → Place → Type 0
IsFree part_a accumulator = ⊥
IsFree _ _ = Unit {0}

put : (part : Part) (place : Place) (result : Replacement) (r : Registers) → is_register part ≡ true → IsFree part place
    → held part (record r { flags = result.flags }) ≡ held part r → held part (replaced_registers place result r) ≡ held part r
unfolding IsFree
put part_a accumulator result r is bad same = absurd bad
put part_x accumulator result r is free same = refl
put part_y accumulator result r is free same = refl
put part accumulator result r bad free same = absurd (true≢false (sym bad))
put part place result r is free same = same

jump : (part : Part) (place : Place) (w : World) → held part (jumped memory_access place w).registers ≡ held part w.registers
unfolding jumped_through
jump part (address at) w = moved part w.registers w.registers.s at
jump part (pointer at) w = moved part w.registers w.registers.s (jumped_through memory_access at w).registers.pc
jump part place w = refl

call : (part : Part) (place : Place) (w : World) → held part (called_place memory_access place w).registers ≡ held part w.registers
unfolding called
call part (address at) w = moved part w.registers (called memory_access at w).registers.s at
call part place w = refl

branch : (part : Part) (place : Place) (w : World) (is : Bool)
    → held part (let v : World = if is then branched_to place w else w in v).registers ≡ held part w.registers
branch part place w true = moved part w.registers w.registers.s (let v : World = branched_to place w in v).registers.pc
branch part place w false = refl

stays : (part : Part) (place : Place) (effect : Effect) (w : World) → is_register part ≡ true → IsFree part place
    → ((byte : ℕ) (r : Registers) → held part (changed effect byte r) ≡ held part r)
    → held part (after_effect memory_access place effect w).registers ≡ held part w.registers
unfolding after_effect changed returned returned_from_interrupt
stays part place (sets change) w is free same = same 0 w.registers
stays part place (takes change) w is free same = same (operand_byte memory_access place w) w.registers
stays part place (replaces change) w is free same =
    put part place (change (operand_byte memory_access place w) w.registers.flags) w.registers is free
    (same (operand_byte memory_access place w) w.registers)
stays part place (stores byte) w is free same = refl
stays part place (pushes byte) w is free same = moved part w.registers _ w.registers.pc
stays part place (pulls change) w is free same =
    same (pulled memory_access w) (record w.registers { s = (w.registers.s + 1) % 256 })
    ∙ moved part w.registers ((w.registers.s + 1) % 256) w.registers.pc
stays part place (branches test) w is free same = branch part place w (test w.registers.flags)
stays part place jumps w is free same = jump part place w
stays part place calls w is free same = call part place w
stays part place returns w is free same = moved part w.registers _ (returned memory_access w).registers.pc
stays part place returns_from_interrupt w is free same =
    flagged part w.registers _ (returned_from_interrupt memory_access w).registers.pc (returned_from_interrupt memory_access w).registers.flags is
stays part place breaks w is free same = refl

-- an operand in A is used, so A is known
free : (part : Part) (mode : Mode) (w : World) (value : ℕ) (known : Part → Bool) → Knows known (mode_needs mode) → known part ≡ false
    → IsFree part (place_of memory_access w.memory w.registers mode value)
unfolding IsFree
free part_a Accumulator w value known looks unknown = true≢false (sym looks.0 ∙ unknown)
free part_a mode w value known looks unknown = tt
free part mode w value known looks unknown = tt

-- an instruction keeps each register that is not known after it
instruction : (row : Row) (value : ℕ) (w : World) (known : Part → Bool) (part : Part) → is_register part ≡ true
    → Knows known (mode_needs row.mode) → known part ≡ false → list_any (is_part part) (sets_parts row.mnemonic) ≡ false
    → held part (performed memory_access row value w).registers ≡ held part w.registers
unfolding performed
instruction row value w known part is looks unknown unset =
    let place : Place = place_of memory_access w.memory w.registers row.mode value in
    stays part place (effect_of row.mnemonic) (with_pc (next_address row w.registers.pc) w) is (free part row.mode w value known looks unknown)
    (λ byte r. keeps part row.mnemonic byte r is unset)
    ∙ moved part w.registers w.registers.s (next_address row w.registers.pc)

neither : (one other : Bool) → IsTrue (not (one || other)) → (one ≡ false) × (other ≡ false)
neither true other bad = absurd (true≢false (sym bad))
neither false true bad = absurd (true≢false (sym bad))
neither false false is = (refl, refl)

is_unknown : (b : Bool) → b ≡ false → IsTrue (not b)
is_unknown true bad = absurd (true≢false bad)
is_unknown false is = refl

step : (found : Result Decoded Cause) (w : World) (known : Part → Bool) (part : Part) → is_register part ≡ true
    → Knows known (found_needs found) → list_any (is_part part) (found_sets found) ≡ false → known part ≡ false
    → held part (done_at found w).registers ≡ held part w.registers
step (Err cause) w known part is looks unset unknown = refl
step (Ok d) w known part is looks unset unknown =
    instruction d.row d.value w known part is (knows-append known (needs d.row.mnemonic) (mode_needs d.row.mode) looks).1 unknown unset

-- the step from the second of two worlds keeps a register that is not known after it
by_step : (code : Code) (k : Part → Bool) (known : ℕ → Bool) (s t : World) → Near k (AgreeOn known) s t → StepReads code known s
    → Knows k (step_needs code s) → (part : Part) → is_register part ≡ true → list_any (is_part part) (step_sets code s) ≡ false → k part ≡ false
    → held part (next code t).registers ≡ held part t.registers
by_step code k known s t h reads looks part is unset unknown = go (service_at s.registers.pc) refl
  where
    there : (o : Option Service) → service_at s.registers.pc ≡ o → service_at t.registers.pc ≡ o
    there o at = ap (λ pc. service_at pc) (sym h.registers.pc) ∙ at

    free : stuck code t ≡ None
    free = (one_step code k known s t h reads looks).0

    go : (o : Option Service) → service_at s.registers.pc ≡ o → held part (next code t).registers ≡ held part t.registers
    go None at =
        let found : Result Decoded Cause = found_at_pc code s in
        let same : found_at_pc code t ≡ found =
        ap (λ pc. code.instruction_at t.memory pc) (sym h.registers.pc) ∙ found_there code known s reads at t.memory h.memory in
        ap (λ (v : World). held part v.registers) (next_is code t found (there None at) same)
        ∙ step found t k part is (subst (λ ps. Knows k ps) (needs_at code s None at) looks)
        (sym (ap (λ ps. list_any (is_part part) ps) (sets_at code s None at)) ∙ unset) unknown
    go (Some service) at =
        let keyless : is_keyless service ≡ true = keyless_there code known s service reads at in
        let fitting : fits service t.registers t.memory ≡ true =
        (not_stuck code.protected service t (sym (stuck_served code t service (not_home code t free) (there (Some service) at)) ∙ free)).1 in
        ap (λ (v : World). held part v.registers) (next_served code t service (there (Some service) at))
        ∙ (keeping service t keyless fitting h.memory.right_pages).1 part
        (sym (ap (λ ps. list_any (is_part part) ps) (sets_at code s (Some service) at)) ∙ unset)

pub staying : UnknownRegistersStay
unfolding parts_known_after world_at
staying code parts bytes s t zero h reads looks part is unknown = refl
staying code parts bytes s t (suc n) h reads looks part is unknown =
    let last : n < suc n = omega arith in
    let before : RunReads code bytes s n = λ k lt. (let below : k < suc n = omega (arith, lt) in reads k below) in
    let needed : RunNeeds code parts s n = λ k lt. (let below : k < suc n = omega (arith, lt) in looks k below) in
    let near : Near (parts_known_after code parts s n) (AgreeOn (bytes_known_after code bytes s n)) (world_at code s n) (world_at code t n) =
    (runs code parts bytes s t n h before needed).0 in
    let both : (list_any (is_part part) (step_sets code (world_at code s n)) ≡ false) × (parts_known_after code parts s n part ≡ false) =
    neither (list_any (is_part part) (step_sets code (world_at code s n))) (parts_known_after code parts s n part) unknown in
    by_step code (parts_known_after code parts s n) (bytes_known_after code bytes s n) (world_at code s n) (world_at code t n) near (reads n last) (looks n last)
    part is both.0 both.1
    ∙ staying code parts bytes s t n h before needed part is (is_unknown (parts_known_after code parts s n part) both.1)
