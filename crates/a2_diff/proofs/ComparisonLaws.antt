-- One more change.
use Rattle.std.proofs.Common.{◌≡◌, ◌∙◌, ℕ, ◌+◌, ◌<◌, List, [], ◌∷◌, ◌++◌, length, take, get_or, refl, sym, ap, arith}
use Rattle.std.specs.List.{AllByRecursion, flat_map}
use Rattle.std.proofs.lemmas.List.{append_assoc, append-nil, take_more, flat_map_more}
use Rattle.a2_diff.specs.declared.rows.Row.{Row}
use Rattle.a2_diff.specs.declared.comparison.Change.{Change}
use Rattle.a2_diff.specs.Comparison.{first_of, second_of, firsts, seconds, IsTrue_of, shown}

pub firsts-more : (changes : List Change) (c : Change) → firsts (changes ++ c ∷ []) ≡ firsts changes ++ first_of c
firsts-more [] c = append-nil (first_of c)
firsts-more (x ∷ xs) c = ap (λ ys. first_of x ++ ys) (firsts-more xs c) ∙ sym (append_assoc (first_of x) (firsts xs) (first_of c))

pub seconds-more : (changes : List Change) (c : Change) → seconds (changes ++ c ∷ []) ≡ seconds changes ++ second_of c
seconds-more [] c = append-nil (second_of c)
seconds-more (x ∷ xs) c = ap (λ ys. second_of x ++ ys) (seconds-more xs c) ∙ sym (append_assoc (second_of x) (seconds xs) (second_of c))

pub alike-more : (changes : List Change) (c : Change) → AllByRecursion IsTrue_of changes → IsTrue_of c → AllByRecursion IsTrue_of (changes ++ c ∷ [])
alike-more [] c all is = (is, tt)
alike-more (x ∷ xs) c all is = (all.0, alike-more xs c all.1 is)

-- the rows so far with the next one, if changes have it
pub firsts-next : (changes : List Change) (c : Change) (rows : List Row) (i : ℕ) (d : Row) → i < length rows → first_of c ≡ get_or rows i d ∷ []
    → firsts changes ≡ take i rows → firsts (changes ++ c ∷ []) ≡ take (i + 1) rows
firsts-next changes c rows i d low is before =
    firsts-more changes c ∙ ap (λ ys. firsts changes ++ ys) is ∙ ap (λ ys. ys ++ get_or rows i d ∷ []) before ∙ sym (take_more rows i d low)

pub seconds-next : (changes : List Change) (c : Change) (rows : List Row) (i : ℕ) (d : Row) → i < length rows → second_of c ≡ get_or rows i d ∷ []
    → seconds changes ≡ take i rows → seconds (changes ++ c ∷ []) ≡ take (i + 1) rows
seconds-next changes c rows i d low is before =
    seconds-more changes c ∙ ap (λ ys. seconds changes ++ ys) is ∙ ap (λ ys. ys ++ get_or rows i d ∷ []) before ∙ sym (take_more rows i d low)

-- and without it
pub firsts-same : (changes : List Change) (c : Change) (rows : List Row) → first_of c ≡ [] → firsts changes ≡ rows → firsts (changes ++ c ∷ []) ≡ rows
firsts-same changes c rows is before = firsts-more changes c ∙ ap (λ ys. firsts changes ++ ys) is ∙ append-nil (firsts changes) ∙ before

pub seconds-same : (changes : List Change) (c : Change) (rows : List Row) → second_of c ≡ [] → seconds changes ≡ rows → seconds (changes ++ c ∷ []) ≡ rows
seconds-same changes c rows is before = seconds-more changes c ∙ ap (λ ys. seconds changes ++ ys) is ∙ append-nil (seconds changes) ∙ before

-- the lines so far with that of the next change
pub shown-next : (changes : List Change) (i : ℕ) (d : Change) → i < length changes
    → flat_map shown (take i changes) ++ shown (get_or changes i d) ≡ flat_map shown (take (i + 1) changes)
shown-next changes i d low =
    flat_map_more shown [] (take i changes) (get_or changes i d) ∙ ap (λ xs. flat_map shown xs) (sym (take_more changes i d low))
