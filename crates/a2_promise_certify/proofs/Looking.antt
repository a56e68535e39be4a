-- What a choice between two values depends on.
use Rattle.std.specs.Prelude.{◌≡◌, ◌⊎◌, ℤ, not, Bool, true, false, Option, Some, None}
use Rattle.std.proofs.Common.{sym, subst, inl, inr, true≢false}
use Rattle.a2_promise.specs.ReadsOfValues.{OfBoth, OfChosen}
use Rattle.a2_promise.specs.Values.{is_zero}
use Rattle.a2_promise_certify.specs.Judging.{holds}

pub none_chosen : (by : Option ℤ) (One Other : Type 0) → by ≡ None → OfChosen by One Other
none_chosen by One Other none = subst (λ v. OfChosen v One Other) (sym none) tt

pub one_chosen : (by : Option ℤ) (One Other : Type 0) → holds by ≡ true → One → OfChosen by One Other
one_chosen None One Other is one = tt
one_chosen (Some z) One Other is one = go (is_zero z) is
  where
    go : (zero : Bool) → not zero ≡ true → OfBoth zero One Other
    go true bad = absurd (true≢false (sym bad))
    go false _ = one

pub other_chosen : (by : Option ℤ) (One Other : Type 0) → holds by ≡ false → Other → OfChosen by One Other
other_chosen None One Other is other = tt
other_chosen (Some z) One Other is other = go (is_zero z) is
  where
    go : (zero : Bool) → not zero ≡ false → OfBoth zero One Other
    go true _ = other
    go false bad = absurd (true≢false bad)

-- What holds for both of two values holds for one that equals either.
pub of_either : {X : Type 0} (P : X → Type 0) (x one other : X) → (x ≡ one) ⊎ (x ≡ other) → P one → P other → P x
of_either P x one other (inl e) first second = subst P (sym e) first
of_either P x one other (inr e) first second = subst P (sym e) second
