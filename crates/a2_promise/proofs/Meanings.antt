-- The reader gives words and digits the meaning that they have in an allowed expression.
use Rattle.std.specs.Prelude.{◌≡◌, ℕ, Bool, true, false, not, List, [], ◌∷◌, map, length, codes, Option, Some, None, if◌then◌else◌}
use Rattle.std.specs.List.{list_any, list_all}
use Rattle.std.specs.Str.{bytes_eq}
use Rattle.std.proofs.Common.{refl, sym, ap, subst, ◌∙◌, eqb-true}
use Rattle.std.proofs.lemmas.Bool.{false≢true, and_parts, or_parts, cond-false, not-true}
use Rattle.std.proofs.lemmas.Slice.Eq.{bytes_eq-Decides}
use Rattle.a2_promise.specs.declared.expr.Atom.{Atom}
use Rattle.a2_promise.specs.declared.expr.Atom.TheVariants.{A}
use Rattle.a2_promise.specs.Written.{atom_name}
use Rattle.a2_promise.specs.Grammar.{openings, is_name_among, may_count, number_among, is_just}
use Rattle.a2_promise.proofs.Finder.{named, it, opening_words}

none_named : {X : Type 0} → (rows : List (List ℕ × X)) (name : List ℕ)
    → list_any (bytes_eq name) (map (λ row. row.0) rows) ≡ false
    → named rows name ≡ None
none_named [] name h = refl
none_named {X} (row ∷ rows) name h =
    let parts = or_parts (bytes_eq name row.0) (list_any (bytes_eq name) (map (λ (row : List ℕ × X). row.0) rows)) h in
    cond-false (bytes_eq name row.0) (Some row.1) (named rows name) parts.0 ∙ none_named rows name parts.1

same_words : map (λ row. row.0) opening_words ≡ openings
same_words = refl

-- a word that opens nothing
pub no_opening : (name : List ℕ) → is_name_among openings name ≡ false → named opening_words name ≡ None
no_opening name h = none_named opening_words name (ap (λ names. list_any (bytes_eq name) names) same_words ∙ h)

pub atom_opens : (a : Atom) → named opening_words (atom_name a) ≡ Some (it a)
atom_opens A = refl
atom_opens _ = refl

pub may_count_opens : (name : List ℕ) → may_count name ≡ true → is_name_among openings name ≡ false
may_count_opens name h =
    not-true (is_name_among openings name)
    (and_parts (not (is_name_among openings name)) (not (is_name_among (codes "iff" ∷ codes "or" ∷ codes "and" ∷ []) name)) h).0

counted_by : (one : List ℕ) (around : List (List ℕ)) (name : List ℕ) (k : ℕ) (same : Bool) → bytes_eq name one ≡ same
    → may_count one ≡ true
    → list_all may_count around ≡ true → (if same then Some (length around) else number_among around name) ≡ Some k
    → ((list_all may_count around ≡ true) → number_among around name ≡ Some k → is_name_among openings name ≡ false)
    → is_name_among openings name ≡ false
counted_by one around name k true e may all h more =
    may_count_opens name (subst (λ (x : List ℕ). may_count x ≡ true) (sym ((bytes_eq-Decides name one).0 e)) may)
counted_by one around name k false e may all h more = more all h

-- a bound name opens nothing
pub counted_opens : (around : List (List ℕ)) (name : List ℕ) (k : ℕ) → list_all may_count around ≡ true
    → number_among around name ≡ Some k
    → is_name_among openings name ≡ false
counted_opens [] name k all h = let never : None ≡ Some k = h in cc
counted_opens (one ∷ around) name k all h =
    let parts = and_parts (may_count one) (list_all may_count around) all in
    counted_by one around name k (bytes_eq name one) refl parts.0 parts.1 h (λ all h. counted_opens around name k all h)

pub not_counted : (around : List (List ℕ)) (name : List ℕ) → is_name_among around name ≡ false → number_among around name ≡ None
not_counted [] name h = refl
not_counted (one ∷ around) name h =
    let parts = or_parts (bytes_eq name one) (is_name_among around name) h in
    cond-false (bytes_eq name one) (Some (length around)) (number_among around name) parts.0 ∙ not_counted around name parts.1

pub just : (n : ℕ) (o : Option ℕ) → is_just n o ≡ true → o ≡ Some n
just n None h = absurd (false≢true h)
just n (Some m) h = ap (λ x. Some x) (eqb-true m n h)
