-- The routines along a run.
use Rattle.std.proofs.Common.{◌≡◌, ◌⊎◌, inl, inr, ℕ, ◌+◌, ◌<◌, ◌≤◌, List, length, Option, Some, None, sym, subst, arith}
use Rattle.a2_routines.specs.declared.routines.Entry.{Entry}
use Rattle.a2_history.specs.Courses.{Course}
use Rattle.a2_history.specs.Routines.{entered, IsNewestOutside}

below-next : (n : ℕ) (P : ℕ → Type 0) → P n → ((k : ℕ) → k < n → P k) → (k : ℕ) → k < n + 1 → P k
below-next n P here before k lt = go (split k lt)
  where
    split : (k : ℕ) → k < n + 1 → (k ≡ n) ⊎ (k < n)
    split k lt = grind (arith, lt)

    go : (k ≡ n) ⊎ (k < n) → P k
    go (inl e) = subst P (sym e) here
    go (inr l) = before k l

-- the latest position outside so far
pub outside-start : (course : Course) (most : ℕ) → IsNewestOutside course most 0 None
outside-start course most = λ k l. absurd (omega (arith, l))

pub outside-here : (course : Course) (most n : ℕ) (entries : List Entry) → entries ≡ entered course n → length entries ≤ most
    → IsNewestOutside course most (n + 1) (Some n)
outside-here course most n entries is few =
    (omega arith, subst (λ (es : List Entry). length es ≤ most) is few, λ k l m. absurd (omega (arith, l, m)))

pub outside-before : (course : Course) (most n : ℕ) (entries : List Entry) (found : Option ℕ) → entries ≡ entered course n → most < length entries
    → IsNewestOutside course most n found → IsNewestOutside course most (n + 1) found
outside-before course most n entries None is more before =
    λ k l. below-next n (λ p. most < length (entered course p)) (subst (λ (es : List Entry). most < length es) is more) before k l
outside-before course most n entries (Some p) is more before = (
  omega (arith, before.0),
  before.1,
  λ k l m. below-next n (λ q. p < q → most < length (entered course q)) (λ _. subst (λ (es : List Entry). most < length es) is more)
      (λ q r s. before.2 q s r) k m l,
)
