-- The instruction at an address.
use Rattle.std.specs.Prelude.{◌≡◌, ◌<◌, ◌≤◌, ℕ, zero, suc, ◌+◌, ◌%◌, List, [], ◌∷◌, length, Option, Some, None, IfSome, slice_get, refl}
use Rattle.std.proofs.Common.{sym, ap, ◌∙◌, arith, take}
use Rattle.std.proofs.lemmas.Option.{slice_get_within}
use Rattle.a2_opcode.specs.declared.Instr.{Instr}
use Rattle.a2_opcode.specs.Encoding.{IsFetchedFrom, Shows}
use Rattle.a2_opcode.specs.Table.{length_of}
use Rattle.a2_bus.specs.Memory.{ram_end}
use Rattle.a2_promise_certify.specs.Walking.{IsInstructionAt}

get_take : {X : Type 0} (n : ℕ) (xs : List X) (k : ℕ) → k < length (take n xs) → slice_get (take n xs) k ≡ slice_get xs k
get_take zero xs k lt = let bad : ⊥ = omega (arith, lt) in absurd bad
get_take (suc n) [] k lt = let bad : ⊥ = omega (arith, lt) in absurd bad
get_take (suc n) (x ∷ xs) zero lt = refl
get_take (suc n) (x ∷ xs) (suc k) lt = let low : k < length (take n xs) = omega (arith, lt) in get_take n xs k low

module _ (pc : ℕ) (bytes : List ℕ) (size : length bytes ≡ ram_end) (a b c : ℕ) (first : slice_get bytes pc ≡ Some a)
    (second : slice_get bytes ((pc + 1) % 65536) ≡ Some b) (third : slice_get bytes ((pc + 2) % 65536) ≡ Some c) where
  low : pc < ram_end
  low = omega (arith, slice_get_within bytes pc a first, size)

  shown : (k : ℕ) → k < 3 → slice_get bytes ((pc + k) % 65536) ≡ slice_get (a ∷ b ∷ c ∷ []) k
  shown zero lt = let e : (pc + 0) % 65536 ≡ pc = omega (arith, low) in ap (λ n. slice_get bytes n) e ∙ first
  shown (suc zero) lt = second
  shown (suc (suc zero)) lt = third
  shown (suc (suc (suc k))) lt = let bad : ⊥ = omega (arith, lt) in absurd bad

  shows : (n : ℕ) → n ≤ 3 → Shows (slice_get bytes) pc (take n (a ∷ b ∷ c ∷ []))
  shows n few k lt =
      shown k (omega (arith, within n (a ∷ b ∷ c ∷ []) k lt)) ∙ sym (get_take n (a ∷ b ∷ c ∷ []) k lt)
    where
      within : (n : ℕ) (xs : List ℕ) (k : ℕ) → k < length (take n xs) → k < length xs
      within zero xs k lt = let bad : ⊥ = omega (arith, lt) in absurd bad
      within (suc n) [] k lt = let bad : ⊥ = omega (arith, lt) in absurd bad
      within (suc n) (x ∷ xs) zero lt = omega arith
      within (suc n) (x ∷ xs) (suc k) lt = let next : k < length (take n xs) = omega (arith, lt) in omega (arith, within n xs k next)

  pub standing : (found : Option Instr) → IfSome found (λ i. length_of i.mode ≤ 3)
      → IfSome found (λ i. IsFetchedFrom i pc (take (length_of i.mode) (a ∷ b ∷ c ∷ [])))
      → IfSome found (λ i. IsInstructionAt i pc bytes)
  standing None whole from = whole
  standing (Some i) whole from =
      let at = from (slice_get bytes) (shows (length_of i.mode) whole) in
      record { low = low; size = size; row = at.0; is_row = at.1; fetch = at.2 }
