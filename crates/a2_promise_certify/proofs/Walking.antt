-- One step of a routine in progress, and many steps.
use Rattle.std.specs.Prelude.{◌≡◌, ◌<◌, ℕ, ◌+◌, ◌-◌, ◌&&◌, Bool, true, false, List, [], ◌∷◌, ◌++◌, length, Option, Some, None, Ok, MatchOption, slice_get, refl}
use Rattle.std.specs.List.{list_all, list_any}
use Rattle.std.proofs.Common.{sym, ap, ◌∙◌, subst, arith, true≢false}
use Rattle.a2_text.specs.Bytes.{is_among}
use Rattle.a2_opcode.specs.declared.Instr.{Instr}
use Rattle.a2_opcode.specs.declared.Row.{Row}
use Rattle.a2_opcode.specs.Encoding.{Fetched, fetched, instruction, no_byte, undocumented, bytes_from, value_of}
use Rattle.a2_opcode.specs.Table.{row_of, length_of, IsRowFor}
use Rattle.a2_opcode.proofs.Lookup.{row-is}
use Rattle.a2_bus.specs.BusState.{BusState, board_access}
use Rattle.a2_bus.specs.Memory.{memory_access, peek, ram_end}
use Rattle.a2_bus.specs.View.{memory_of}
use Rattle.a2_cpu.specs.BusStep.{Refusal, refusal_of}
use Rattle.a2_effect.specs.Effect.{effect_of}
use Rattle.a2_effect.specs.Place.{place_of}
use Rattle.a2_effect.specs.Registers.{Registers}
use Rattle.a2_cpu.specs.Stores.{stores_of}
use Rattle.a2_cpu.specs.StepStores.{none_if, stores_at}
use Rattle.a2_cpu.specs.GuardedBusStep.{guarded_bus_step}
use Rattle.a2_cpu.specs.View.{guarded_answer_of, state_left_by}
use Rattle.a2_effect.specs.Instruction.{state_of}
use Rattle.a2_cpu.specs.declared.GuardedStep.TheVariants as answer
use Rattle.a2_services.specs.Services.{service_at}
use Rattle.a2_services.specs.World.{World, world_of}
use Rattle.a2_machine.specs.declared.causes.Cause.{Cause}
use Rattle.a2_machine.specs.Meaning.{Decoded, cause_of_cpu_error, found_at_pc}
use Rattle.a2_machine.specs.ByteRun.{decoded_or_cause}
use Rattle.a2_machine.specs.Outcome.{IsStepExecuted}
use Rattle.a2_machine.proofs.Outcomes.{fetched-world, found-admitted, instruction_step, no_return, no_service, stores-world}
use Rattle.a2_footprint.specs.declared.Part.{Part}
use Rattle.a2_footprint.specs.InstructionParts.{mode_needs, needs, sets_parts}
use Rattle.a2_footprint.specs.InstructionReads.{effect_reads, pointer_reads, reads_of}
use Rattle.a2_footprint.specs.Fetches.{addresses_from, fetch_reads, operand_addresses}
use Rattle.a2_footprint.specs.Parts.{with_parts}
use Rattle.a2_footprint.specs.Reads.{Knows}
use Rattle.a2_footprint.specs.Runs.{found_reads, found_stores, step_reads, step_stores}
use Rattle.a2_footprint.specs.Uses.{found_needs, found_sets}
use Rattle.a2_footprint.specs.Services.{is_keyless}
use Rattle.a2_footprint.specs.RotatedStack.{FoundOffStack, IsOffStack, StepIsOffStack, in_stack, moves_s, operand_uses}
use Rattle.a2_footprint.proofs.Boards.{boards, same_place}
use Rattle.a2_footprint.proofs.Fetching.{steps_by_bytes}
use Rattle.a2_footprint.proofs.Running.{needs_at, reads_at, sets_at, stores_at as stored_by, stuck_is}
use Rattle.a2_promise_certify.specs.Kept.{code}
use Rattle.a2_promise_certify.specs.Walking.{IsStep, AreMarked, IsInstructionAt, known_now, knows_part}
use Rattle.a2_promise.specs.declared.promises.Changes.{Changes}
use Rattle.a2_promise_certify.specs.declared.known_parts.KnownParts.{KnownParts}

-- All are known.

pub knows_all : {X : Type 0} (known : X → Bool) (xs : List X) → list_all known xs ≡ true → Knows known xs
knows_all known [] h = tt
knows_all known (x ∷ xs) h = go (known x) refl h (λ rest. knows_all known xs rest)
  where
    go : (here : Bool) → known x ≡ here → (here && list_all known xs) ≡ true → (list_all known xs ≡ true → Knows known xs) → Knows known (x ∷ xs)
    go true is rest later = (is, later rest)
    go false is bad later = absurd (true≢false (sym bad))

both_true : (x y : Bool) → (x && y) ≡ true → (x ≡ true) × (y ≡ true)
both_true true y is = (refl, is)
both_true false y bad = absurd (true≢false (sym bad))

pub knows_both : {X : Type 0} (known : X → Bool) (xs ys : List X) → Knows known xs → Knows known ys → Knows known (xs ++ ys)
knows_both known [] ys first second = second
knows_both known (x ∷ xs) ys first second = (first.0, knows_both known xs ys first.1 second)

-- The instruction at an address

abbrev by_row : (ℕ → Option ℕ) → ℕ → Option Row → Fetched
by_row show at found =
    elim found [
      | None ↦ undocumented
      | Some row ↦ elim (bytes_from show (at + 1) (length_of row.mode - 1)) [
        | None ↦ no_byte
        | Some operand ↦ instruction row (value_of row.mode at operand)
      ]
    ]

abbrev by_opcode : (ℕ → Option ℕ) → ℕ → Option ℕ → Fetched
by_opcode show at byte = elim byte [ None ↦ no_byte | Some opcode ↦ by_row show at (row_of opcode) ]

same_row : (r row : Row) (v value : ℕ) → (let f : Fetched = instruction r v in f) ≡ instruction row value → r ≡ row
same_row r row v value e = cc

addresses_of : (show : ℕ → Option ℕ) (at : ℕ) (row : Row) (value : ℕ) → fetched show at ≡ instruction row value
    → operand_addresses at (show at) ≡ addresses_from (at + 1) (length_of row.mode - 1)
unfolding fetched
addresses_of show at row value e = go (show at) e
  where
    following : (r : Row) (operand : Option (List ℕ))
        → (let f : Fetched = elim operand [ None ↦ no_byte | Some some ↦ instruction r (value_of r.mode at some) ] in f) ≡ instruction row value
        → addresses_from (at + 1) (length_of r.mode - 1) ≡ addresses_from (at + 1) (length_of row.mode - 1)
    following r None e = cc
    following r (Some some) e = ap (λ r. addresses_from (at + 1) (length_of r.mode - 1)) (same_row r row (value_of r.mode at some) value e)

    found : (r : Option Row) → by_row show at r ≡ instruction row value
        → (elim r [ None ↦ [] | Some row ↦ addresses_from (at + 1) (length_of row.mode - 1) ]) ≡ addresses_from (at + 1) (length_of row.mode - 1)
    found None e = cc
    found (Some r) e = following r (bytes_from show (at + 1) (length_of r.mode - 1)) e

    go : (byte : Option ℕ) → by_opcode show at byte ≡ instruction row value
        → operand_addresses at byte ≡ addresses_from (at + 1) (length_of row.mode - 1)
    go None e = cc
    go (Some opcode) e = found (row_of opcode) e

refused_not : (why : Option Refusal) (cause : Option Cause)
    → (let c : Option Cause = elim why [ Some w ↦ Some (cause_of_cpu_error w) | None ↦ cause ] in c) ≡ None → why ≡ None
refused_not None cause e = refl
refused_not (Some w) cause e = cc

module _ (instr : Instr) (registers : Registers) (bus : BusState) (size : length bus.bytes ≡ ram_end) (stands : IsInstructionAt instr registers.pc bus.bytes) where
  pub low : registers.pc < ram_end
  low = omega (arith, stands.low)

  pub decoded : Decoded
  decoded = record { row = stands.row; value = instr.value }

  pub is_row : IsRowFor instr.mnemonic instr.mode stands.row
  is_row = row-is instr.mnemonic instr.mode stands.row stands.is_row

  pub found : (before : ℕ) → found_at_pc code (world_of registers bus before) ≡ Ok (record { row = stands.row; value = instr.value })
  found before =
      found-admitted None (world_of registers bus before) refl
      ∙ ap (λ f. decoded_or_cause f) (fetched-world bus registers.pc size ∙ stands.fetch)

  pub fetched_known : (known : ℕ → Bool) (before : ℕ) → Knows known (registers.pc ∷ addresses_from (registers.pc + 1) (length_of instr.mode - 1))
      → Knows known (fetch_reads (world_of registers bus before).memory registers.pc)
  unfolding fetch_reads
  fetched_known known before looks =
      let shown : fetched (peek (memory_of bus)) registers.pc ≡ instruction stands.row instr.value = fetched-world bus registers.pc size ∙ stands.fetch in
      let same : operand_addresses registers.pc (peek (memory_of bus) registers.pc) ≡ addresses_from (registers.pc + 1) (length_of stands.row.mode - 1) =
      addresses_of (peek (memory_of bus)) registers.pc stands.row instr.value shown in
      let modes : addresses_from (registers.pc + 1) (length_of instr.mode - 1) ≡ addresses_from (registers.pc + 1) (length_of stands.row.mode - 1) =
      ap (λ mode. addresses_from (registers.pc + 1) (length_of mode - 1)) (sym is_row.mode_is) in
      (looks.0, subst (λ ns. Knows known ns) (modes ∙ sym same) looks.1)

  module _ (known stored new_stored : List Bool) (parts new_parts : KnownParts) (changes : Changes) (new_registers : Registers) (new_bus : BusState) (cycles : ℕ)
      (fetches : Knows (known_now known stored) (registers.pc ∷ addresses_from (registers.pc + 1) (length_of instr.mode - 1)))
      (looked : (list_all (known_now known stored) (pointer_reads instr.mode instr.value registers)
      && list_all (known_now known stored)
      (effect_reads (effect_of instr.mnemonic) (place_of board_access bus registers instr.mode instr.value) registers.s)) ≡ true)
      (used : (list_all (knows_part parts) (needs instr.mnemonic) && list_all (knows_part parts) (mode_needs instr.mode)) ≡ true)
      (code_off : list_any in_stack (addresses_from registers.pc 3) ≡ false)
      (off : (moves_s instr.mnemonic ≡ false) × (list_any in_stack (pointer_reads instr.mode instr.value registers) ≡ false)
      × (list_any in_stack (operand_uses (effect_of instr.mnemonic) (place_of board_access bus registers instr.mode instr.value)) ≡ false))
      (targets : List ℕ) (written : targets ≡ stores_at board_access (fetched (slice_get bus.bytes) registers.pc) (state_of registers bus))
      (marked : AreMarked stored new_stored changes targets)
      (told : answer.Next cycles ≡ guarded_answer_of (guarded_bus_step (is_among []) board_access (state_of registers bus)))
      (left_registers : new_registers ≡ (state_left_by (guarded_bus_step (is_among []) board_access (state_of registers bus)) (state_of registers bus)).registers)
      (left_bus : new_bus ≡ (state_left_by (guarded_bus_step (is_among []) board_access (state_of registers bus)) (state_of registers bus)).memory)
      (learned : (part : Part) → knows_part new_parts part ≡ with_parts (sets_parts instr.mnemonic) (knows_part parts) part) where
    pointer : Knows (known_now known stored) (pointer_reads instr.mode instr.value registers)
    pointer = knows_all (known_now known stored) (pointer_reads instr.mode instr.value registers) (both_true _ _ looked).0

    operand : Knows (known_now known stored)
        (effect_reads (effect_of instr.mnemonic) (place_of board_access bus registers instr.mode instr.value) registers.s)
    operand =
        knows_all (known_now known stored)
        (effect_reads (effect_of instr.mnemonic) (place_of board_access bus registers instr.mode instr.value) registers.s)
        (both_true (list_all (known_now known stored) (pointer_reads instr.mode instr.value registers)) _ looked).1

    mnemonic : Knows (knows_part parts) (needs instr.mnemonic)
    mnemonic = knows_all (knows_part parts) (needs instr.mnemonic) (both_true _ _ used).0

    mode : Knows (knows_part parts) (mode_needs instr.mode)
    mode = knows_all (knows_part parts) (mode_needs instr.mode) (both_true (list_all (knows_part parts) (needs instr.mnemonic)) _ used).1

    made : IsStepExecuted None registers bus new_registers new_bus cycles
    made = instruction_step None registers bus size low refl new_registers new_bus cycles told left_registers left_bus

    -- No service is in RAM.
    away : (before : ℕ) → service_at (world_of registers bus before).registers.pc ≡ None
    away before = no_service registers.pc low

    read : (before : ℕ) → Knows (known_now known stored) (step_reads code (world_of registers bus before))
    unfolding reads_of
    read before =
        let w : World = world_of registers bus before in
        let on_board : Knows (known_now known stored) (reads_of board_access stands.row instr.value (state_of registers bus)) =
        knows_both (known_now known stored) (pointer_reads stands.row.mode instr.value registers)
        (effect_reads (effect_of stands.row.mnemonic) (place_of board_access bus registers stands.row.mode instr.value) registers.s)
        (subst (λ m. Knows (known_now known stored) (pointer_reads m instr.value registers)) (sym is_row.mode_is) pointer)
        (subst (λ m. Knows (known_now known stored) (effect_reads (effect_of stands.row.mnemonic) (place_of board_access bus registers m instr.value) registers.s))
        (sym is_row.mode_is)
        (subst (λ m. Knows (known_now known stored) (effect_reads (effect_of m) (place_of board_access bus registers instr.mode instr.value) registers.s))
        (sym is_row.mnemonic_is) operand)) in
        let on_memory : Knows (known_now known stored) (reads_of memory_access stands.row instr.value w) =
        subst (λ ns. Knows (known_now known stored) ns) (boards stands.row instr.value (state_of registers bus) size) on_board in
        subst (λ ns. Knows (known_now known stored) ns) (sym (reads_at code w None (away before)))
        (subst (λ f. Knows (known_now known stored) (found_reads f w)) (sym (found before)) on_memory)

    refusal_none : refusal_of stands.row.mnemonic registers.flags ≡ None
    refusal_none =
        let w : World = world_of registers bus 0 in
        refused_not (refusal_of stands.row.mnemonic registers.flags) _
        (sym (stuck_is code w (Ok (record { row = stands.row; value = instr.value })) (no_return registers.pc low) (no_service registers.pc low) (found 0)) ∙ made.going 0)

    stored_at : (before : ℕ) → targets ≡ step_stores code (world_of registers bus before)
    unfolding stores_at
    stored_at before =
        written
        ∙ ap (λ f. stores_at board_access f (state_of registers bus)) stands.fetch
        ∙ ap (λ why. none_if why (stores_of board_access stands.row instr.value (state_of registers bus))) refusal_none
        ∙ stores-world stands.row instr.value registers bus before size
        ∙ sym (ap (λ f. found_stores f (world_of registers bus before)) (found before))
        ∙ sym (stored_by code (world_of registers bus before) None (away before))

    -- The stack is used only through S.
    off_stack : (before : ℕ) → IsOffStack decoded (world_of registers bus before)
    unfolding decoded
    off_stack before =
        let w : World = world_of registers bus before in
        let there : place_of memory_access w.memory registers stands.row.mode instr.value ≡ place_of board_access bus registers stands.row.mode instr.value =
        sym (same_place bus size registers stands.row.mode instr.value) in
        record {
          mnemonic = ap (λ m. moves_s m) is_row.mnemonic_is ∙ off.0;
          pointer = ap (λ m. list_any in_stack (pointer_reads m instr.value registers)) is_row.mode_is ∙ off.1;
          operand =
              ap (λ place. list_any in_stack (operand_uses (effect_of stands.row.mnemonic) place)) there
              ∙ (λ i. list_any in_stack (operand_uses (effect_of (is_row.mnemonic_is i)) (place_of board_access bus registers (is_row.mode_is i) instr.value)))
              ∙ off.2;
        }

    step_off_stack : (before : ℕ) → StepIsOffStack (world_of registers bus before)
    unfolding decoded
    step_off_stack before =
        let w : World = world_of registers bus before in
        subst (λ o. MatchOption o ((list_any in_stack (addresses_from registers.pc 3) ≡ false) × FoundOffStack (found_at_pc code w) w)
        (λ service. is_keyless service ≡ true)) (sym (away before))
        (code_off, subst (λ f. FoundOffStack f w) (sym (found before)) (off_stack before))

    pub is_step : IsStep known stored new_stored parts new_parts changes registers bus new_registers new_bus cycles
    is_step = record {
      off_stack = step_off_stack;
      reads = λ before. steps_by_bytes None (known_now known stored) (world_of registers bus before) (made.going before) (no_service registers.pc low)
          (fetched_known (known_now known stored) before fetches) (read before);
      needs = λ before.
          subst (λ ps. Knows (knows_part parts) ps) (sym (needs_at code (world_of registers bus before) None (away before)))
          (subst (λ f. Knows (knows_part parts) (found_needs f)) (sym (found before))
          (subst (λ m. Knows (knows_part parts) (needs m ++ mode_needs stands.row.mode)) (sym is_row.mnemonic_is)
          (subst (λ m. Knows (knows_part parts) (needs instr.mnemonic ++ mode_needs m)) (sym is_row.mode_is)
          (knows_both (knows_part parts) (needs instr.mnemonic) (mode_needs instr.mode) mnemonic mode))));
      world = made.world;
      stores = λ before. subst (λ ns. AreMarked stored new_stored changes ns) (stored_at before) marked;
      parts = λ before part.
          learned part
          ∙ ap (λ m. with_parts (sets_parts m) (knows_part parts) part) (sym is_row.mnemonic_is)
          ∙ sym (ap (λ f. with_parts (found_sets f) (knows_part parts) part) (found before))
          ∙ sym (ap (λ ps. with_parts ps (knows_part parts) part) (sets_at code (world_of registers bus before) None (away before)));
    }
