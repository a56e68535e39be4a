-- The promise of the example holds: each step is computed, with memory, X, Y and flags unknown.
use Rattle.std.specs.Prelude.{◌≡◌, ◌<◌, ◌==◌, ◌||◌, ℕ, zero, suc, ◌+◌, ◌*◌, ◌%◌, Bool, true, false, nat_lt, IsTrue, [], ◌∷◌, refl}
use Rattle.std.proofs.Common.{ap, ap₂, subst, arith, true≢false, sym}
use Rattle.std.proofs.lemmas.Bool.Decides.{nat_tests}
use Rattle.a2_text.specs.Bytes.{is_among}
use Rattle.a2_bus.specs.Memory.{Memory, ram_byte, ram_end}
use Rattle.a2_services.specs.World.{World}
use Rattle.a2_machine.proofs.Computing.{computing}
use Rattle.a2_machine.specs.Meaning.{world_at}
use Rattle.a2_footprint.specs.InstructionReads.{reads_of}
use Rattle.a2_footprint.specs.declared.Part.{Part}
use Rattle.a2_footprint.specs.declared.Part.TheVariants.{A as part_a}
use Rattle.a2_footprint.specs.InstructionParts.{needs, sets_parts}
use Rattle.a2_footprint.specs.Parts.{is_part}
use Rattle.a2_footprint.specs.Runs.{RunReads, step_reads, step_stores, bytes_known_after}
use Rattle.a2_footprint.specs.Uses.{RunNeeds, step_needs, step_sets, parts_known_after}
use Rattle.a2_footprint.specs.Promises.{Passes, IsRequired, known_bytes, known_parts, with_inputs}
use Rattle.a2_footprint.specs.Doubling.{doubling_promise, DoublingHolds}

module _ (memory : Memory) (stack : (ram_byte memory 0x1FE ≡ 0x68) × (ram_byte memory 0x1FF ≡ 0xFF)) (inputs : World) where
  reads : RunReads (doubling_promise memory).code (known_bytes (doubling_promise memory)) (with_inputs (doubling_promise memory) inputs) 3
  unfolding computing world_at bytes_known_after step_reads step_stores reads_of
  reads zero _ = record { going = refl; found = λ other _. refl; reads = tt }
  reads (suc zero) _ = record { going = refl; found = λ other _. refl; reads = tt }
  reads (suc (suc zero)) _ = record { going = refl; found = λ other _. refl; reads = (refl, (refl, tt)) }
  reads (suc (suc (suc k))) lt = let bad : ⊥ = omega (arith, lt) in absurd bad

  looks : RunNeeds (doubling_promise memory).code (known_parts (doubling_promise memory)) (with_inputs (doubling_promise memory) inputs) 3
  unfolding computing world_at parts_known_after step_needs step_sets needs sets_parts
  looks zero _ = (refl, tt)
  looks (suc zero) _ = (refl, tt)
  looks (suc (suc zero)) _ = tt
  looks (suc (suc (suc k))) lt = let bad : ⊥ = omega (arith, lt) in absurd bad

  only : (a : ℕ) → is_among (0x06 ∷ []) a ≡ true → 0x06 ≡ a
  only a among = go (6 == a) refl among
    where
      go : (here : Bool) → (6 == a) ≡ here → here || false ≡ true → 0x06 ≡ a
      go true is _ = grind (arith, nat_tests, is)
      go false _ bad = absurd (true≢false (sym bad))

  doubles : (a : ℕ) → nat_lt a 128 ≡ true → ((2 * a + 0) % 256 == 2 * a) ≡ true
  doubles a below = let lt : a < 128 = grind (arith, nat_tests, below) in let e : (2 * a + 0) % 256 ≡ 2 * a = omega (arith, lt) in grind (arith, nat_tests, e)

  passes : IsRequired (doubling_promise memory) (with_inputs (doubling_promise memory) inputs)
      → Passes (doubling_promise memory) 3 (with_inputs (doubling_promise memory) inputs)
  unfolding computing world_at bytes_known_after step_stores
  passes required = record {
    steps = 3;
    within = omega arith;
    reads = reads;
    needs = looks;
    home = ap₂ (λ low high. (low + 256 * high + 1) % 65536) stack.0 stack.1;
    shown = record { bytes = λ a among. subst Shown (only a among) (below, refl); parts = λ part bad. absurd (true≢false (sym bad)) };
    passed = doubles inputs.registers.a required;
  }
    where
      Shown : ℕ → Type 0
      Shown a = (a < ram_end)
          × IsTrue (bytes_known_after (doubling_promise memory).code (known_bytes (doubling_promise memory)) (with_inputs (doubling_promise memory) inputs) 3 a)

      below : 0x06 < ram_end
      below = omega arith

pub doubling_holds : DoublingHolds
doubling_holds memory pages stack = record {
  pages = pages;
  shown = record { bytes = λ a bad. absurd (true≢false (sym bad)); parts = λ part known. (known_before part known) };
  every = λ inputs bytes required. passes memory stack inputs required;
}
  where
    known_before : (part : Part) → IsTrue (is_part part_a part) → IsTrue (is_part part_a part || false)
    known_before part known = ap (λ b. b || false) known
