-- A list of marks with none set.
use Rattle.std.specs.Prelude.{get_or, replicate}
use Rattle.std.proofs.Common.{◌≡◌, ◌⊎◌, inl, inr, ℕ, ◌<◌, ◌≤◌, false, arith}
use Rattle.std.proofs.lemmas.List.{get_or-replicate, get_or_past, length-replicate}

low-or-high : (a n : ℕ) → (a < n) ⊎ (n ≤ a)
low-or-high a n = grind arith

-- no mark is set, at any index inside or after the list
pub none-marked : (n a : ℕ) → get_or (replicate n false) a false ≡ false
none-marked n a = elim (low-or-high a n) [
  | inl low ↦ get_or-replicate n a false false low
  | inr high ↦ get_or_past (replicate n false) a false (omega (arith, high, length-replicate n false))
]
