-- Steps of a routine in progress, up to its own RTS.
use Rattle.std.specs.Prelude.{◌≡◌, ◌≢◌, ◌⊎◌, ◌<◌, ℕ, zero, suc, ◌+◌, ◌==◌, ◌||◌, Bool, true, false, List, [], ◌∷◌, ◌++◌, length, None, Ok, refl}
use Rattle.std.specs.List.{list_any}
use Rattle.std.proofs.Common.{sym, ap, ◌∙◌, subst, arith, inl, inr, true≢false}
use Rattle.std.proofs.lemmas.Bool.Decides.{nat_tests}
use Rattle.a2_text.specs.Bytes.{is_among}
use Rattle.a2_opcode.specs.declared.Instr.{Instr}
use Rattle.a2_opcode.specs.declared.Mnemonic.TheVariants.{Rts}
use Rattle.a2_bus.specs.BusState.{BusState}
use Rattle.a2_bus.specs.Memory.{Memory, ram_end}
use Rattle.a2_effect.specs.Registers.{Registers}
use Rattle.a2_cpu.specs.Stores.{IsNotIn}
use Rattle.a2_services.specs.World.{World, world_of}
use Rattle.a2_services.specs.Services.{service_at}
use Rattle.a2_machine.specs.Meaning.{Code, Decoded, next, stuck, world_at}
use Rattle.a2_machine.proofs.Outcomes.{no_return, no_service}
use Rattle.a2_promise.specs.declared.promises.Changes.{Changes}
use Rattle.a2_footprint.specs.declared.Part.{Part}
use Rattle.a2_footprint.specs.InstructionReads.{pull_address}
use Rattle.a2_footprint.specs.Calls.{ReachesRts}
use Rattle.a2_footprint.specs.Fetches.{addresses_from, fetch_reads}
use Rattle.a2_footprint.specs.Parts.{is_part}
use Rattle.a2_footprint.specs.Reads.{AgreeOn, Knows}
use Rattle.a2_footprint.specs.Runs.{StepReads, bytes_known_after, step_stores, stores_in}
use Rattle.a2_footprint.specs.RotatedStack.{StepIsOffStack, in_stack}
use Rattle.a2_footprint.specs.Uses.{step_needs, step_sets, parts_known_after}
use Rattle.a2_footprint.proofs.Calling.{not_refused}
use Rattle.a2_footprint.proofs.Fetching.{fetches}
use Rattle.a2_footprint.proofs.Running.{stuck_is}
use Rattle.a2_promise_certify.specs.declared.known_parts.KnownParts.{KnownParts}
use Rattle.a2_promise_certify.specs.Kept.{code}
use Rattle.a2_promise_certify.specs.Walking.{ReachesOwnRts, IsOwnRts, IsStep, IsWalk, MayStore, IsInstructionAt, is_set, known_now, knows_part}
use Rattle.a2_promise_certify.proofs.Walking.{found, fetched_known, is_row, low}

or_assoc : (x y z : Bool) → (x || (y || z)) ≡ ((x || y) || z)
or_assoc true y z = refl
or_assoc false y z = refl

-- What is known after some steps is what they stored, and what was known before.
pub known_split : (program : Code) (known : ℕ → Bool) (start : World) (n a : ℕ)
    → bytes_known_after program known start n a ≡ (bytes_known_after program (λ b. false) start n a || known a)
unfolding bytes_known_after
known_split program known start zero a = refl
known_split program known start (suc n) a =
    ap (λ v. is_among (step_stores program (world_at program start n)) a || v) (known_split program known start n a)
    ∙ or_assoc (is_among (step_stores program (world_at program start n)) a) (bytes_known_after program (λ b. false) start n a) (known a)

neither : (one other : Bool) → (one || other) ≡ false → (one ≡ false) × (other ≡ false)
neither true other bad = absurd (true≢false bad)
neither false other is = (refl, is)

not_among : (a : ℕ) (ns : List ℕ) → is_among ns a ≡ false → IsNotIn a ns
not_among a [] is = tt
not_among a (n ∷ ns) is =
    let both : ((n == a) ≡ false) × (is_among ns a ≡ false) = neither (n == a) (is_among ns a) is in
    (apart both.0, not_among a ns both.1)
  where
    apart : (n == a) ≡ false → a ≢ n
    apart other = grind (arith, nat_tests, other)

not_in_both : (a : ℕ) (ns ms : List ℕ) → IsNotIn a ns → IsNotIn a ms → IsNotIn a (ns ++ ms)
not_in_both a [] ms first second = second
not_in_both a (n ∷ ns) ms first second = (first.0, not_in_both a ns ms first.1 second)

-- What the steps did not store is not among their stores.
pub not_stored : (program : Code) (start : World) (n a : ℕ) → bytes_known_after program (λ b. false) start n a ≡ false
    → IsNotIn a (stores_in program start n)
unfolding bytes_known_after stores_in
not_stored program start zero a is = tt
not_stored program start (suc n) a is =
    let both : (is_among (step_stores program (world_at program start n)) a ≡ false) × (bytes_known_after program (λ b. false) start n a ≡ false) =
    neither (is_among (step_stores program (world_at program start n)) a) (bytes_known_after program (λ b. false) start n a) is in
    not_in_both a (stores_in program start n) (step_stores program (world_at program start n)) (not_stored program start n a both.1)
    (not_among a (step_stores program (world_at program start n)) both.0)

below_or_last : (k n : ℕ) → k < suc n → (k < n) ⊎ (k ≡ n)
below_or_last k n lt = grind (arith, lt)

-- no step yet
pub none : (known stored : List Bool) (parts : KnownParts) (changes : Changes) (registers : Registers) (bus : BusState)
    → ((a : ℕ) → is_set stored a ≡ false) → IsWalk known stored parts parts changes registers bus registers bus 0 0
unfolding world_at bytes_known_after parts_known_after
none known stored parts changes registers bus clear = record {
  world = refl;
  reads = λ k lt. (let bad : ⊥ = omega (arith, lt) in absurd bad);
  needs = λ k lt. (let bad : ⊥ = omega (arith, lt) in absurd bad);
  off_stack = λ k lt. (let bad : ⊥ = omega (arith, lt) in absurd bad);
  stored = clear;
  parts = λ part. refl;
  allowed = λ a is. absurd (true≢false (sym is ∙ clear a));
}

module _ (known stored new_stored : List Bool) (first_parts parts new_parts : KnownParts) (changes : Changes)
    (first : Registers) (first_bus : BusState) (registers : Registers) (bus : BusState) (new_registers : Registers) (new_bus : BusState)
    (cycles more n : ℕ) (so_far : IsWalk known stored first_parts parts changes first first_bus registers bus cycles n) where
  start : World
  start = world_of first first_bus 0

  known_same : known_now known stored ≡ bytes_known_after code (is_set known) (world_of first first_bus 0) n
  known_same = λ i a.
      (ap (λ v. v || is_set known a) (so_far.stored a) ∙ sym (known_split code (is_set known) (world_of first first_bus 0) n a)) i

  parts_same : knows_part parts ≡ parts_known_after code (knows_part first_parts) (world_of first first_bus 0) n
  parts_same = λ i part. so_far.parts part i

  module _ (step : IsStep known stored new_stored parts new_parts changes registers bus new_registers new_bus more) where
    reads_last : StepReads code (bytes_known_after code (is_set known) (world_of first first_bus 0) n) (world_at code (world_of first first_bus 0) n)
    reads_last =
        subst (λ (w : World). StepReads code (bytes_known_after code (is_set known) (world_of first first_bus 0) n) w) so_far.world
        (subst (λ (k : ℕ → Bool). StepReads code k (world_of registers bus cycles)) known_same (step.reads cycles))

    needs_last : Knows (parts_known_after code (knows_part first_parts) (world_of first first_bus 0) n)
        (step_needs code (world_at code (world_of first first_bus 0) n))
    needs_last =
        subst (λ (w : World). Knows (parts_known_after code (knows_part first_parts) (world_of first first_bus 0) n) (step_needs code w)) so_far.world
        (subst (λ (k : Part → Bool). Knows k (step_needs code (world_of registers bus cycles))) parts_same (step.needs cycles))

    reads_each : (k : ℕ) → (k < n) ⊎ (k ≡ n)
        → StepReads code (bytes_known_after code (is_set known) (world_of first first_bus 0) k) (world_at code (world_of first first_bus 0) k)
    reads_each k (inl low) = so_far.reads k low
    reads_each k (inr e) =
        subst (λ j. StepReads code (bytes_known_after code (is_set known) (world_of first first_bus 0) j) (world_at code (world_of first first_bus 0) j)) (sym e) reads_last

    needs_each : (k : ℕ) → (k < n) ⊎ (k ≡ n)
        → Knows (parts_known_after code (knows_part first_parts) (world_of first first_bus 0) k)
        (step_needs code (world_at code (world_of first first_bus 0) k))
    needs_each k (inl low) = so_far.needs k low
    needs_each k (inr e) =
        subst (λ j. Knows (parts_known_after code (knows_part first_parts) (world_of first first_bus 0) j)
        (step_needs code (world_at code (world_of first first_bus 0) j))) (sym e) needs_last

    off_each : (k : ℕ) → (k < n) ⊎ (k ≡ n) → StepIsOffStack (world_at code (world_of first first_bus 0) k)
    off_each k (inl low) = so_far.off_stack k low
    off_each k (inr e) =
        subst (λ j. StepIsOffStack (world_at code (world_of first first_bus 0) j)) (sym e)
        (subst (λ (w : World). StepIsOffStack w) so_far.world (step.off_stack cycles))

    may : (a : ℕ) (among : Bool) → is_among (step_stores code (world_of registers bus cycles)) a ≡ among
        → (among || is_set stored a) ≡ true → MayStore changes a
    may a true is _ = (step.stores cycles).allowed a is
    may a false is old = so_far.allowed a old

    pub one_more : IsWalk known new_stored first_parts new_parts changes first first_bus new_registers new_bus (cycles + more) (suc n)
    unfolding world_at bytes_known_after parts_known_after
    one_more = record {
      world = step.world cycles ∙ ap (λ w. next code w) so_far.world;
      reads = λ k lt. reads_each k (below_or_last k n lt);
      needs = λ k lt. needs_each k (below_or_last k n lt);
      off_stack = λ k lt. off_each k (below_or_last k n lt);
      stored = λ a.
          (step.stores cycles).marks a
          ∙ ap (λ v. is_among (step_stores code (world_of registers bus cycles)) a || v) (so_far.stored a)
          ∙ ap (λ (w : World). is_among (step_stores code w) a || bytes_known_after code (λ b. false) (world_of first first_bus 0) n a) so_far.world;
      parts = λ part.
          step.parts cycles part
          ∙ ap (λ v. list_any (is_part part) (step_sets code (world_of registers bus cycles)) || v) (so_far.parts part)
          ∙ ap (λ (w : World). list_any (is_part part) (step_sets code w) || parts_known_after code (knows_part first_parts) (world_of first first_bus 0) n part)
          so_far.world;
      allowed = λ a is.
          may a (is_among (step_stores code (world_of registers bus cycles)) a) refl (sym ((step.stores cycles).marks a) ∙ is);
    }

  module _ (instr : Instr) (size : length bus.bytes ≡ ram_end) (stands : IsInstructionAt instr registers.pc bus.bytes)
      (own : IsOwnRts known stored instr registers) (first_s : first.s ≡ 0xFD) where
    rts : Decoded
    rts = record { row = stands.row; value = instr.value }

    here : World
    here = world_of registers bus cycles

    free : (a : ℕ) → (MayStore changes a → ⊥) → IsNotIn a (stores_in code (world_of first first_bus 0) n)
    free a none = not_stored code (world_of first first_bus 0) n a (sym (so_far.stored a) ∙ go (is_set stored a) refl)
      where
        go : (set : Bool) → is_set stored a ≡ set → is_set stored a ≡ false
        go true is = absurd (none (so_far.allowed a is))
        go false is = is

    is_mnemonic : stands.row.mnemonic ≡ Rts
    is_mnemonic = (is_row instr registers bus size stands).mnemonic_is ∙ own.mnemonic

    going : stuck code (world_of registers bus cycles) ≡ None
    going =
        stuck_is code (world_of registers bus cycles) (Ok (record { row = stands.row; value = instr.value }))
        (no_return registers.pc (low instr registers bus size stands))
        (no_service registers.pc (low instr registers bus size stands)) (found instr registers bus size stands cycles)
        ∙ not_refused code.protected (record { row = stands.row; value = instr.value }) (world_of registers bus cycles) is_mnemonic

    same : (other : Memory) → AgreeOn (bytes_known_after code (is_set known) (world_of first first_bus 0) n) (world_of registers bus cycles).memory other
        → code.instruction_at other registers.pc ≡ Ok (record { row = stands.row; value = instr.value })
    same other agree =
        fetches None (bytes_known_after code (is_set known) (world_of first first_bus 0) n) (world_of registers bus cycles).memory other registers.pc agree
        (subst (λ (k : ℕ → Bool). Knows k (fetch_reads (world_of registers bus cycles).memory registers.pc)) known_same
        (fetched_known instr registers bus size stands (known_now known stored) cycles own.fetch))
        ∙ found instr registers bus size stands cycles

    comes : ReachesRts code (knows_part first_parts) (is_set known) (world_of first first_bus 0) n
    comes = record {
      reads = so_far.reads;
      needs = so_far.needs;
      going = subst (λ (w : World). stuck code w ≡ None) so_far.world going;
      no_service = subst (λ (w : World). service_at w.registers.pc ≡ None) so_far.world (no_service registers.pc (low instr registers bus size stands));
      rts = record { row = stands.row; value = instr.value };
      is_rts = is_mnemonic;
      found = subst (λ (w : World). (other : Memory) → AgreeOn (bytes_known_after code (is_set known) (world_of first first_bus 0) n) w.memory other
          → code.instruction_at other w.registers.pc ≡ Ok (record { row = stands.row; value = instr.value })) so_far.world same;
      s = ap (λ (w : World). w.registers.s) (sym so_far.world) ∙ own.s ∙ sym first_s;
      low = subst (λ s. IsNotIn (pull_address s 1) (stores_in code (world_of first first_bus 0) n)) (sym first_s) (free 0x1FE (λ may. may.1 refl));
      high = subst (λ s. IsNotIn (pull_address s 2) (stores_in code (world_of first first_bus 0) n)) (sym first_s) (free 0x1FF (λ may. may.2 refl));
    }

    pub home : ReachesOwnRts known stored first_parts parts changes first first_bus registers bus cycles n
    unfolding comes
    home = record {
      walk = so_far;
      comes = comes;
      implied = (is_row instr registers bus size stands).mode_is ∙ own.mode;
      s = first_s;
      home_off_stack = subst (λ (w : World). list_any in_stack (addresses_from w.registers.pc 3) ≡ false) so_far.world own.off_stack;
    }
