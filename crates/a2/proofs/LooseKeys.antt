-- Where loose keys occur in a list of arguments.
use Rattle.std.specs.Prelude.{◌≡◌, ℕ, ◌+◌, ◌-◌, ◌<◌, ◌≤◌, List, Some, IsTrue, codes, length, map, nat_eq, option_map, slice_get, slice_index_or, unwrap_or}
use Rattle.std.specs.List.{starts_with}
use Rattle.std.proofs.Common.{ap, arith, inl, inr, refl, subst, sym, ◌∙◌}
use Rattle.std.proofs.Math.Nat.{eq-or-lt_of_le}
use Rattle.std.proofs.lemmas.List.{length-map}
use Rattle.std.proofs.lemmas.Option.{slice_get-map, slice_get_read, slice_get_within}
use Rattle.clap.specs.Words.{Text}
use Rattle.a2.specs.Words.{AreLooseKeys, HasLooseKeys}

-- the text of one argument in the list
text_at : {A : Type 0} (f : A → Text) (words : List A) (i : ℕ) (x : A) → i < length words → x ≡ slice_index_or words i x
    → slice_get (map f words) i ≡ Some (f x)
text_at f words i x within is = slice_get-map f words i ∙ ap (option_map f) (slice_get_read words (length words) i x refl within is)

pub loose_here : {A : Type 0} (f : A → Text) (words : List A) (index : ℕ) (a b : A) → 1 ≤ index → index < length words
    → a ≡ slice_index_or words (index - 1) a → b ≡ slice_index_or words index b → AreLooseKeys (f a) (f b) → HasLooseKeys (map f words)
loose_here f words index a b least within is_a is_b are =
    let before : index - 1 < length words = omega arith in
    let following : index ≡ index - 1 + 1 = omega arith in
    record {
      at = index - 1;
      option = f a;
      value = f b;
      option_is = text_at f words (index - 1) a before is_a;
      value_is = subst (λ n. slice_get (map f words) n ≡ Some (f b)) following (text_at f words index b within is_b);
      are = are;
    }

some_same : {A : Type 0} (a b : A) → Some a ≡ Some b → a ≡ b
some_same a b same = ap (λ o. unwrap_or o a) same

pub loose_behind : {A : Type 0} (f : A → Text) (words : List A) (index : ℕ) (a b : A) → 1 ≤ index → index < length words
    → a ≡ slice_index_or words (index - 1) a → b ≡ slice_index_or words index b → (AreLooseKeys (f a) (f b) → ⊥)
    → ((loose : HasLooseKeys (map f words)) → index ≤ loose.at + 1) → (loose : HasLooseKeys (map f words)) → index + 1 ≤ loose.at + 1
loose_behind f words index a b least within is_a is_b not from loose =
    let before : index - 1 < length words = omega arith in
    let at_or_behind : index ≤ loose.at + 1 = from loose in
    elim (eq-or-lt_of_le at_or_behind) [
      | inl here ↦
          let at_is : index - 1 ≡ loose.at = omega arith in
          let first : f a ≡ loose.option = some_same (f a) loose.option
          (sym (text_at f words (index - 1) a before is_a) ∙ ap (slice_get (map f words)) at_is ∙ loose.option_is) in
          let second : f b ≡ loose.value = some_same (f b) loose.value
          (sym (text_at f words index b within is_b) ∙ ap (slice_get (map f words)) here ∙ loose.value_is) in
          let begins : Text → Type 0 = λ text. IsTrue (starts_with nat_eq text (codes "-")) in
          absurd (not (first ∙ loose.are.0, subst begins (sym second) loose.are.1))
      | inr following ↦ omega arith
    ]

pub none_loose : {A : Type 0} (f : A → Text) (words : List A) (index : ℕ) → length words ≤ index
    → ((loose : HasLooseKeys (map f words)) → index ≤ loose.at + 1) → HasLooseKeys (map f words) → ⊥
none_loose f words index end from loose =
    let within : loose.at + 1 < length (map f words) = slice_get_within (map f words) (loose.at + 1) loose.value loose.value_is in
    let same : length (map f words) ≡ length words = length-map words f in
    let at_or_behind : index ≤ loose.at + 1 = from loose in
    absurd (omega arith)
