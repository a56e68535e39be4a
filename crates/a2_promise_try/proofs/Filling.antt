-- Filling RAM, one address at a time.
use Rattle.std.specs.Prelude.{◌≡◌, ◌⊎◌, ℕ, ◌+◌, ◌<◌, ◌≤◌, Option, Some, None, IfSome, refl}
use Rattle.std.proofs.Common.{sym, subst, arith, inl, inr}
use Rattle.a2_hex.specs.Images.{IsImage, ram_end}
use Rattle.a2_promise_try.specs.Failing.{IsFilled}

-- RAM is filled below an address
abbrev pub FilledTo : (ℕ → Option ℕ) → (ℕ → Option ℕ) → ℕ → Type 0
FilledTo program filled n = (a : ℕ) → a < n → IfSome (program a) (λ byte. filled a ≡ Some byte)

low_or_last : (a n : ℕ) → a < n + 1 → (a < n) ⊎ (a ≡ n)
low_or_last a n lt = grind (arith, lt)

pub filled_none : (program filled : ℕ → Option ℕ) → FilledTo program filled 0
filled_none program filled a lt = let bad : ⊥ = omega (arith, lt) in absurd bad

pub filled_next : (program before after : ℕ → Option ℕ) (n : ℕ) → FilledTo program before n
    → IfSome (program n) (λ byte. after n ≡ Some byte) → ((a : ℕ) → a < n → after a ≡ before a) → FilledTo program after (n + 1)
filled_next program before after n so here elsewhere a lt = go (low_or_last a n lt)
  where
    go : (a < n) ⊎ (a ≡ n) → IfSome (program a) (λ byte. after a ≡ Some byte)
    go (inl low) = subst (λ (o : Option ℕ). IfSome (program a) (λ byte. o ≡ Some byte)) (sym (elsewhere a low)) (so a low)
    go (inr e) = subst (λ (k : ℕ). IfSome (program k) (λ byte. after k ≡ Some byte)) (sym e) here

-- a program is in RAM
pub filled_all : (program filled : ℕ → Option ℕ) (n : ℕ) → ram_end ≤ n → IsImage program → FilledTo program filled n
    → IsFilled program filled
filled_all program filled n all image so a = go (program a) refl (image a)
  where
    go : (o : Option ℕ) → program a ≡ o → IfSome o (λ byte. (a < ram_end) × (byte < 256))
        → IfSome (program a) (λ byte. filled a ≡ Some byte)
    go None e is = subst (λ (o : Option ℕ). IfSome o (λ byte. filled a ≡ Some byte)) (sym e) is
    go (Some b) e is = so a (omega (arith, is.0, all))
