-- What holds below a number and at it.
use Rattle.std.specs.Prelude.{◌≡◌, ◌⊎◌, ℕ, ◌+◌, ◌<◌}
use Rattle.std.proofs.Common.{arith, inl, inr, subst, sym}

pub below-next : (P : ℕ → Type 0) (n : ℕ) → ((k : ℕ) → k < n → P k) → P n → (k : ℕ) → k < n + 1 → P k
below-next P n before last k low = elim split as (λ _. P k) [ inl less ↦ before k less | inr same ↦ subst P (sym same) last ]
  where
    split : (k < n) ⊎ (k ≡ n)
    split = grind (arith, low)
