-- A run that uses the stack only through S does the same for every value of S.
use Rattle.std.specs.Prelude.{◌≡◌, ◌<◌, ◌==◌, ℕ, zero, suc, ◌+◌, ◌-◌, ◌%◌, Bool, true, false, not, nat_lt, IsTrue, if◌then◌else◌, List, [], ◌∷◌, Option, Some, None, Result, Ok, Err, MatchOption, refl}
use Rattle.std.specs.List.{list_any}
use Rattle.std.proofs.Common.{sym, ap, ◌∙◌, subst, arith, below_more}
use Rattle.std.proofs.lemmas.Bool.Decides.{nat_tests}
use Rattle.a2_text.specs.Bytes.{is_among}
use Rattle.a2_opcode.specs.Encoding.{fetched}
use Rattle.a2_opcode.specs.Table.{row_of, length_of}
use Rattle.a2_opcode.specs.declared.Mode.{Mode}
use Rattle.a2_opcode.specs.declared.Mode.TheVariants.{Implied, Accumulator, Absolute, AbsoluteX, AbsoluteY, Indirect, IndexedIndirect}
use Rattle.a2_opcode.specs.declared.Row.{Row}
use Rattle.a2_bus.specs.Memory.{Memory, memory_access, peek, ram_end}
use Rattle.a2_cpu.specs.BusStep.{refusal_of}
use Rattle.a2_effect.specs.Effect.{effect_of}
use Rattle.a2_effect.specs.Place.{place_of}
use Rattle.a2_effect.specs.Registers.{Registers}
use Rattle.a2_cpu.specs.Stores.{stores_of}
use Rattle.a2_services.specs.declared.rows.Service.{Service}
use Rattle.a2_services.specs.Services.{service_at, fits, reach, served}
use Rattle.a2_services.specs.World.{World}
use Rattle.a2_machine.specs.ByteRun.{bytes, decoded_or_cause}
use Rattle.a2_machine.specs.declared.causes.Cause.{Cause}
use Rattle.a2_machine.specs.declared.causes.Cause.TheVariants.{CodeWrite}
use Rattle.a2_machine.specs.Meaning.{Decoded, cause_of_cpu_error, found_at_pc, next, return_address, stuck, world_at}
use Rattle.a2_footprint.specs.InstructionParts.{mode_needs, needs}
use Rattle.a2_footprint.specs.InstructionReads.{pointer_reads, reads_of}
use Rattle.a2_footprint.specs.declared.Part.{Part}
use Rattle.a2_footprint.specs.declared.Part.TheVariants.{X as part_x}
use Rattle.a2_footprint.specs.Fetches.{addresses_from, fetch_reads, operand_addresses}
use Rattle.a2_footprint.specs.Parts.{MatchAt}
use Rattle.a2_footprint.specs.Reads.{AgreeOn, Knows}
use Rattle.a2_footprint.specs.Runs.{StepReads, found_reads, bytes_known_after}
use Rattle.a2_footprint.specs.Services.{is_keyless}
use Rattle.a2_footprint.specs.RotatedStack.{in_stack, rotated_memory, FoundOffStack, IsRotated, RunsOffStackAlike, RunsAlikeOnRotatedStack, StepIsOffStack, operand_uses}
use Rattle.a2_footprint.specs.Uses.{Near, found_needs, parts_known_after, step_needs}
use Rattle.a2_footprint.proofs.Agreeing.{agreeing}
use Rattle.a2_footprint.proofs.Fetching.{same_fetched}
use Rattle.a2_footprint.proofs.Nearing.{knows-append, place-near}
use Rattle.a2_footprint.proofs.Running.{calm_cause, cause_at, done_at, found_there, needs_at, next_is, next_served, not_home, not_stuck, reads_at, runs, some≢none, stuck_is, stuck_served}
use Rattle.a2_footprint.proofs.RotatedInstructions.{off_first, pc-same, performed-turned}
use Rattle.a2_footprint.proofs.RotatedMemory.{same_beside}
use Rattle.a2_footprint.proofs.RotatedServices.{served_turned}

-- The instruction at PC

abbrev is_beside : ℕ → Bool
is_beside a = not (in_stack a)

same_peek : (turn : ℕ) (m n : Memory) (a : ℕ) → n ≡ rotated_memory turn m → IsTrue (is_beside a) → peek n a ≡ peek m a
same_peek turn m n a h beside =
    let off : in_stack a ≡ false = grind (arith, nat_tests, beside) in
    ap (λ k. peek k a) h ∙ ap (λ b. let o : Option ℕ = if nat_lt a ram_end then Some b else None in o) (same_beside turn m a off)

-- if the three addresses that start at PC are outside the stack, so are those of its instruction
beside_pc : (pc : ℕ) → in_stack (pc % 65536) ≡ false → IsTrue (is_beside pc)
beside_pc pc off = grind (arith, nat_tests, off)

beside_operand : (pc : ℕ) (mode : Mode) → list_any in_stack (addresses_from pc 3) ≡ false
    → Knows is_beside (addresses_from (pc + 1) (length_of mode - 1))
beside_operand pc mode off = go mode
  where
    next : suc pc ≡ pc + 1
    next = omega arith

    rest : list_any in_stack (addresses_from (pc + 1) 2) ≡ false
    rest = subst (λ n. list_any in_stack (addresses_from n 2) ≡ false) next (off_first (pc % 65536) _ off).1

    first : IsTrue (is_beside ((pc + 1) % 65536))
    first = ap not (off_first ((pc + 1) % 65536) _ rest).0

    second : IsTrue (is_beside (suc (pc + 1) % 65536))
    second = ap not (off_first (suc (pc + 1) % 65536) _ (off_first ((pc + 1) % 65536) _ rest).1).0

    go : (mode : Mode) → Knows is_beside (addresses_from (pc + 1) (length_of mode - 1))
    go Implied = tt
    go Accumulator = tt
    go Absolute = (first, (second, tt))
    go AbsoluteX = (first, (second, tt))
    go AbsoluteY = (first, (second, tt))
    go Indirect = (first, (second, tt))
    go mode = (first, tt)

beside_fetch : (m : Memory) (pc : ℕ) → list_any in_stack (addresses_from pc 3) ≡ false → Knows is_beside (fetch_reads m pc)
unfolding fetch_reads
beside_fetch m pc off = (beside_pc pc (off_first (pc % 65536) _ off).0, operand (peek m pc))
  where
    row : (found : Option Row) → Knows is_beside (elim found [ None ↦ [] | Some row ↦ addresses_from (pc + 1) (length_of row.mode - 1) ])
    row None = tt
    row (Some r) = beside_operand pc r.mode off

    operand : (byte : Option ℕ) → Knows is_beside (operand_addresses pc byte)
    operand None = tt
    operand (Some b) = row (row_of b)

same_found : (turn : ℕ) (s t : World) → IsRotated turn s t → list_any in_stack (addresses_from s.registers.pc 3) ≡ false
    → found_at_pc (bytes None) t ≡ found_at_pc (bytes None) s
unfolding bytes
same_found turn s t h off =
    ap (λ pc. decoded_or_cause (fetched (peek t.memory) pc)) (sym (pc-same turn s t h))
    ∙ ap (λ f. decoded_or_cause f)
    (same_fetched is_beside s.memory t.memory s.registers.pc (λ a. same_peek turn s.memory t.memory a h.memory) (beside_fetch s.memory s.registers.pc off))

-- A step

none_among : (ns : List ℕ) → list_any (is_among []) ns ≡ false
none_among [] = refl
none_among (n ∷ ns) = none_among ns

-- the results of the same instruction
found_turned : (turn : ℕ) (found : Result Decoded Cause) (s t : World) → IsRotated turn s t → FoundOffStack found s
    → cause_at [] found s ≡ None → (cause_at [] found t ≡ None) × IsRotated turn (done_at found s) (done_at found t)
found_turned turn (Err cause) s t h off free = absurd (some≢none cause free)
found_turned turn (Ok d) s t h off free =
    let none : list_any (is_among []) (stores_of memory_access d.row d.value s) ≡ list_any (is_among []) (stores_of memory_access d.row d.value t) =
    none_among (stores_of memory_access d.row d.value s) ∙ sym (none_among (stores_of memory_access d.row d.value t)) in
    let same : cause_at [] (Ok d) s ≡ cause_at [] (Ok d) t = λ i.
    elim (ap (λ r. refusal_of d.row.mnemonic r.flags) h.registers i) [
      | Some why ↦ Some (cause_of_cpu_error why)
      | None ↦ if none i then Some CodeWrite else None
    ] in
    (sym same ∙ free, performed-turned turn d s t h off)

unguarded : (bytes None).protected ≡ []
unfolding bytes
unguarded = refl

both_are : (turn : ℕ) {v w x y : World} → v ≡ x → w ≡ y → IsRotated turn v w → IsRotated turn x y
both_are turn {v} {w} {x} {y} left right h = subst (λ z. IsRotated turn x z) right (subst (λ z. IsRotated turn z w) left h)

-- the effect of a step from a rotated world
abbrev StepTurns : ℕ → World → World → Type 0
StepTurns turn s t = (stuck (bytes None) t ≡ None) × IsRotated turn (next (bytes None) s) (next (bytes None) t)

module _ (turn : ℕ) (s t : World) (h : IsRotated turn s t) (going : stuck (bytes None) s ≡ None) where
  away : (s.registers.pc == return_address) ≡ false
  away = not_home (bytes None) s going

  away_too : (t.registers.pc == return_address) ≡ false
  away_too = ap (λ pc. pc == return_address) (sym (pc-same turn s t h)) ∙ away

  there : (o : Option Service) → service_at s.registers.pc ≡ o → service_at t.registers.pc ≡ o
  there o is = ap (λ pc. service_at pc) (sym (pc-same turn s t h)) ∙ is

  by_instruction : service_at s.registers.pc ≡ None → list_any in_stack (addresses_from s.registers.pc 3) ≡ false
      → FoundOffStack (found_at_pc (bytes None) s) s → StepTurns turn s t
  by_instruction free code off =
      let found : found_at_pc (bytes None) t ≡ found_at_pc (bytes None) s = same_found turn s t h code in
      let cause : cause_at [] (found_at_pc (bytes None) s) s ≡ None =
      ap (λ p. cause_at p (found_at_pc (bytes None) s) s) (sym unguarded) ∙ sym (stuck_is (bytes None) s _ away free refl) ∙ going in
      let law : (cause_at [] (found_at_pc (bytes None) s) t ≡ None) × IsRotated turn (done_at (found_at_pc (bytes None) s) s) (done_at (found_at_pc (bytes None) s) t) =
      found_turned turn (found_at_pc (bytes None) s) s t h off cause in (
        stuck_is (bytes None) t _ away_too (there None free) found ∙ ap (λ p. cause_at p (found_at_pc (bytes None) s) t) unguarded ∙ law.0,
        both_are turn (sym (next_is (bytes None) s _ free refl)) (sym (next_is (bytes None) t _ (there None free) found)) law.1,
      )

  by_service : (service : Service) → service_at s.registers.pc ≡ Some service → is_keyless service ≡ true → StepTurns turn s t
  by_service service is keyless =
      let calm : (list_any (reach service) (bytes None).protected ≡ false) × (fits service s.registers s.memory ≡ true) =
      not_stuck (bytes None).protected service s (sym (stuck_served (bytes None) s service away is) ∙ going) in
      let law : (fits service t.registers t.memory ≡ fits service s.registers s.memory) × IsRotated turn (served service s) (served service t) =
      served_turned service turn s t h keyless in (
        stuck_served (bytes None) t service away_too (there (Some service) is)
            ∙ calm_cause (bytes None).protected service t keyless calm.0 (law.0 ∙ calm.1),
        both_are turn (sym (next_served (bytes None) s service is)) (sym (next_served (bytes None) t service (there (Some service) is))) law.1,
      )

-- what is outside the stack, given what is at PC
abbrev OffStackBy : World → Option Service → Type 0
OffStackBy world o =
    MatchOption o
    ((list_any in_stack (addresses_from world.registers.pc 3) ≡ false) × FoundOffStack (found_at_pc (bytes None) world) world)
    (λ service. is_keyless service ≡ true)

step_turned : (turn : ℕ) (s t : World) → IsRotated turn s t → stuck (bytes None) s ≡ None → StepIsOffStack s → StepTurns turn s t
step_turned turn s t h going off = go (service_at s.registers.pc) refl off
  where
    go : (o : Option Service) → service_at s.registers.pc ≡ o → OffStackBy s o → StepTurns turn s t
    go None free off = by_instruction turn s t h going free off.0 off.1
    go (Some service) is keyless = by_service turn s t h going service is keyless

-- A run

pub turning : RunsAlikeOnRotatedStack
unfolding world_at
turning turn s t zero h going off = ((λ k lt. let bad : ⊥ = omega (arith, lt) in absurd bad), h)
turning turn s t (suc n) h going off =
    let so_far : ((k : ℕ) → k < n → stuck (bytes None) (world_at (bytes None) t k) ≡ None)
    × IsRotated turn (world_at (bytes None) s n) (world_at (bytes None) t n) =
    turning turn s t n h (λ k lt. let below : k < suc n = omega (arith, lt) in going k below) (λ k lt. let below : k < suc n = omega (arith, lt) in off k below) in
    let last : n < suc n = omega arith in
    let one : StepTurns turn (world_at (bytes None) s n) (world_at (bytes None) t n) =
    step_turned turn (world_at (bytes None) s n) (world_at (bytes None) t n) so_far.1 (going n last) (off n last) in (
      (λ k lt. let below : k < n + 1 = omega (arith, lt) in below_more (λ j. stuck (bytes None) (world_at (bytes None) t j) ≡ None) n so_far.0 one.0 k below),
      one.1,
    )

-- Two runs that agree in everything the first one uses

same_pointer : (k : Part → Bool) (r q : Registers) (mode : Mode) (value : ℕ) → MatchAt k r q → Knows k (mode_needs mode)
    → pointer_reads mode value r ≡ pointer_reads mode value q
same_pointer k r q IndexedIndirect value h known =
    ap (λ x. (value + x) % 256 ∷ ((value + x) % 256 + 1) % 256 ∷ []) (h.parts part_x known.0)
same_pointer k r q mode value h known = refl

off_stack_too : (k : Part → Bool) (known : ℕ → Bool) (found : Result Decoded Cause) (s t : World) → Near k (AgreeOn known) s t
    → Knows k (found_needs found) → Knows known (found_reads found s) → FoundOffStack found s → FoundOffStack found t
unfolding reads_of
off_stack_too k known (Err cause) s t h looks reads off = tt
off_stack_too k known (Ok d) s t h looks reads off =
    let mode : Knows k (mode_needs d.row.mode) = (knows-append k (needs d.row.mnemonic) (mode_needs d.row.mode) looks).1 in
    let shown : Knows known (pointer_reads d.row.mode d.value s.registers) = (knows-append known _ _ reads).0 in
    let place : place_of memory_access s.memory s.registers d.row.mode d.value ≡ place_of memory_access t.memory t.registers d.row.mode d.value =
    place-near (AgreeOn known) known memory_access memory_access (agreeing known) k s t d.row.mode d.value h shown mode in
    record {
      mnemonic = off.mnemonic;
      pointer = ap (λ ns. list_any in_stack ns) (sym (same_pointer k s.registers t.registers d.row.mode d.value h.registers mode)) ∙ off.pointer;
      operand = ap (λ p. list_any in_stack (operand_uses (effect_of d.row.mnemonic) p)) (sym place) ∙ off.operand;
    }

step_off_stack : (k : Part → Bool) (known : ℕ → Bool) (s t : World) → Near k (AgreeOn known) s t → StepReads (bytes None) known s
    → Knows k (step_needs (bytes None) s) → StepIsOffStack s → StepIsOffStack t
step_off_stack k known s t h reads looks off =
    subst (λ o. OffStackBy t o) (ap (λ pc. service_at pc) h.registers.pc) (go (service_at s.registers.pc) refl off)
  where
    go : (o : Option Service) → service_at s.registers.pc ≡ o → OffStackBy s o → OffStackBy t o
    go None free off =
        let found : found_at_pc (bytes None) t ≡ found_at_pc (bytes None) s =
        ap (λ pc. (bytes None).instruction_at t.memory pc) (sym h.registers.pc) ∙ found_there (bytes None) known s reads free t.memory h.memory in (
          ap (λ pc. list_any in_stack (addresses_from pc 3)) (sym h.registers.pc) ∙ off.0,
          subst (λ f. FoundOffStack f t) (sym found)
              (off_stack_too k known (found_at_pc (bytes None) s) s t h (subst (λ ps. Knows k ps) (needs_at (bytes None) s None free) looks)
              (subst (λ ns. Knows known ns) (reads_at (bytes None) s None free) reads.reads) off.1),
        )
    go (Some service) is keyless = keyless

pub staying_off : RunsOffStackAlike
staying_off parts known s t n h reads looks off k lt =
    let near : Near (parts_known_after (bytes None) parts s k) (AgreeOn (bytes_known_after (bytes None) known s k)) (world_at (bytes None) s k) (world_at (bytes None) t k) =
    (runs (bytes None) parts known s t k h (λ j below. let under : j < n = omega (arith, below, lt) in reads j under)
    (λ j below. let under : j < n = omega (arith, below, lt) in looks j under)).0 in
    step_off_stack (parts_known_after (bytes None) parts s k) (bytes_known_after (bytes None) known s k) (world_at (bytes None) s k) (world_at (bytes None) t k) near (reads k lt) (looks k lt) (off k lt)
