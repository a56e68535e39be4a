-- Lists that are joined, item by item.
use Rattle.std.specs.Prelude.{◌≡◌, ◌≢◌, ◌⊎◌, ℕ, ◌+◌, ◌<◌, ◌≤◌, List, length, take, slice_set, refl}
use Rattle.std.specs.List.{sum_by}
use Rattle.std.proofs.Common.{sym, ap, ◌∙◌, arith, inl, inr, get_or, get_or-set_same, get_or-set_other, ap₂}
use Rattle.std.proofs.lemmas.List.{get_or_past, take_all, length-set}
use Rattle.std.proofs.lemmas.List.Sums.{sum_by-set, sum_by_more}

-- each item below an index is joined with the other list's item there
pub record IsJoining {X : Type 0} (join : X → X → X) (d : X) (old others : List X) (i : ℕ) (items : List X) : Type 0 where
  pub size : length items ≡ length old
  pub below : (a : ℕ) → a < i → get_or items a d ≡ join (get_or old a d) (get_or others a d)
  pub above : (a : ℕ) → i ≤ a → get_or items a d ≡ get_or old a d
  pub sums : (f : X → ℕ) → ((x y : X) → f (join x y) ≡ f x + f y) → sum_by f items ≡ sum_by f old + sum_by f (take i others)

pub joining-none : {X : Type 0} (join : X → X → X) (d : X) (old others : List X) → IsJoining join d old others 0 old
joining-none join d old others = record {
  size = refl;
  below = λ a lt. absurd (omega (arith, lt));
  above = λ a le. refl;
  sums = λ f is. omega arith;
}

-- one more item
pub joining-more : {X : Type 0} (join : X → X → X) (d : X) (old others items : List X) (i : ℕ) → i < length old → i < length others
    → IsJoining join d old others i items
    → IsJoining join d old others (i + 1) (slice_set items i (join (get_or items i d) (get_or others i d)))
joining-more {X} join d old others items i low within h =
    let here : i < length items = omega (arith, h.size, low) in
    let new = join (get_or items i d) (get_or others i d) in record {
      size = length-set items i new ∙ h.size;
      below = λ a lt. at_or_below a (split a lt);
      above = λ a le. let ne : a ≢ i = omega (arith, le) in get_or-set_other items i a new d ne ∙ h.above a (omega (arith, le));
      sums = λ f is. omega (arith, sum_by-set f items i new d here, sum_by_more f others i d within, h.sums f is, is (get_or items i d) (get_or others i d));
    }
  where
    split : (a : ℕ) → a < i + 1 → (a ≡ i) ⊎ (a < i)
    split a lt = grind (arith, lt)

    at_or_below : (a : ℕ) → (a ≡ i) ⊎ (a < i)
        → get_or (slice_set items i (join (get_or items i d) (get_or others i d))) a d ≡ join (get_or old a d) (get_or others a d)
    at_or_below a (inl e) =
        ap (λ (k : ℕ). get_or (slice_set items i (join (get_or items i d) (get_or others i d))) k d) e
        ∙ get_or-set_same items i (join (get_or items i d) (get_or others i d)) d (omega (arith, h.size, low))
        ∙ ap (λ (x : X). join x (get_or others i d)) (h.above i (omega arith))
        ∙ ap (λ (k : ℕ). join (get_or old k d) (get_or others k d)) (sym e)
    at_or_below a (inr lt) =
        let ne : a ≢ i = omega (arith, lt) in
        get_or-set_other items i a (join (get_or items i d) (get_or others i d)) d ne ∙ h.below a lt

-- all items are joined
pub record AreJoined {X : Type 0} (join : X → X → X) (d : X) (old others items : List X) : Type 0 where
  pub joined_are : (a : ℕ) → get_or items a d ≡ join (get_or old a d) (get_or others a d)
  pub sums : (f : X → ℕ) → ((x y : X) → f (join x y) ≡ f x + f y) → sum_by f items ≡ sum_by f old + sum_by f others

pub joining-done : {X : Type 0} (join : X → X → X) (d : X) (old others items : List X) (i : ℕ) → join d d ≡ d → length old ≡ length others
    → length others ≤ i → IsJoining join d old others i items → AreJoined join d old others items
joining-done {X} join d old others items i none size all h =
    let whole : take i others ≡ others = take_all i others all in record {
      joined_are = λ a. at_or_past a (split a i);
      sums = λ f is. h.sums f is ∙ ap (λ (l : List X). sum_by f old + sum_by f l) whole;
    }
  where
    split : (a b : ℕ) → (a < b) ⊎ (b ≤ a)
    split a b = grind arith

    at_or_past : (a : ℕ) → (a < i) ⊎ (i ≤ a) → get_or items a d ≡ join (get_or old a d) (get_or others a d)
    at_or_past a (inl lt) = h.below a lt
    at_or_past a (inr le) =
        get_or_past items a d (omega (arith, le, all, h.size, size)) ∙ sym none
        ∙ sym (ap₂ join (get_or_past old a d (omega (arith, le, all, size))) (get_or_past others a d (omega (arith, le, all))))
