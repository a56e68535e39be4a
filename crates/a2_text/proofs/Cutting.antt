-- The first line of a text, and the rest of the text.
use Rattle.std.proofs.Common.{◌≡◌, ℕ, ◌+◌, ◌<◌, Bool, true, false, not, cond, eqb, List, [], ◌∷◌, ◌++◌, length, take, drop, refl, sym, ap, ◌∙◌, arith}
use Rattle.std.proofs.lemmas.List.{append_assoc, take_all}
use Rattle.std.specs.List.{slice_split, onto_first, position_or_len, before_first, after_first}
use Rattle.std.specs.Str.Lines.{strip_carriage_return}
use Rattle.std.proofs.lemmas.List.Splits.{slice_split_first, slice_split_none}
use Rattle.std.proofs.lemmas.List.Sums.{prefix_len_passes}
use Rattle.std.proofs.lemmas.List.Elements.{All-from_get_or}
use Rattle.std.proofs.lemmas.Bool.{not-true, cond-false, ne_eqb}
use Rattle.a2_text.specs.Lines.{lines, lines_of_pieces}

abbrev is_feed : ℕ → Bool
is_feed c = eqb c 10

-- a cut has at least one part
onto_first-some : (x : ℕ) (ps : List (List ℕ)) → (q : List ℕ) × (qs : List (List ℕ)) × (onto_first x ps ≡ q ∷ qs)
onto_first-some x [] = (x ∷ [], [], refl)
onto_first-some x (p ∷ ps) = (x ∷ p, ps, refl)

cond-some : (b : Bool) (xs ys : List (List ℕ)) → (q : List ℕ) × (qs : List (List ℕ)) × (xs ≡ q ∷ qs) → (q : List ℕ) × (qs : List (List ℕ)) × (ys ≡ q ∷ qs) → (q : List ℕ) × (qs : List (List ℕ)) × (cond b xs ys ≡ q ∷ qs)
cond-some true xs ys h k = h
cond-some false xs ys h k = k

pub slice_split-some : (xs : List ℕ) → (q : List ℕ) × (qs : List (List ℕ)) × (slice_split is_feed xs ≡ q ∷ qs)
slice_split-some [] = ([], [], refl)
slice_split-some (x ∷ xs) = cond-some (is_feed x) _ _ ([], slice_split is_feed xs, refl) (onto_first-some x (slice_split is_feed xs))

pub lines_of_pieces-cons : (piece : List ℕ) (ps qs : List (List ℕ)) (q : List ℕ) → ps ≡ q ∷ qs → lines_of_pieces (piece ∷ ps) ≡ strip_carriage_return piece ∷ lines_of_pieces ps
lines_of_pieces-cons piece ps qs q e = rw e refl

pub lines_more : (text : List ℕ) → position_or_len is_feed text < length text → lines text ≡ strip_carriage_return (take (position_or_len is_feed text) text) ∷ lines (drop (position_or_len is_feed text + 1) text)
lines_more text h =
    let s = slice_split-some (after_first is_feed text) in
    ap lines_of_pieces (slice_split_first is_feed text 0 h) ∙ lines_of_pieces-cons (before_first is_feed text) _ s.1 s.0 s.2

lines_of_one : (piece : List ℕ) → 0 < length piece → lines_of_pieces (piece ∷ []) ≡ strip_carriage_return piece ∷ []
lines_of_one piece h = cond-false (eqb (length piece) 0) [] (strip_carriage_return piece ∷ []) (ne_eqb (length piece) 0 (λ e. absurd (omega arith)))

pub lines_last : (text : List ℕ) → 0 < length text → position_or_len is_feed text ≡ length text → lines text ≡ strip_carriage_return text ∷ []
lines_last text h e =
    let none = slice_split_none is_feed text (All-from_get_or (λ x. is_feed x ≡ false) text 0 (λ i lt. not-true _ (prefix_len_passes (λ x. not (is_feed x)) text i 0 (omega (arith, e))))) in
    ap lines_of_pieces none ∙ lines_of_one text h

-- after one more line is found, the lines found and those of the rest are still all lines
pub cut_more : (front : List (List ℕ)) (rest text line next : List ℕ) (end : ℕ) → front ++ lines rest ≡ lines text → end ≡ position_or_len is_feed rest → end < length rest → line ≡ strip_carriage_return (take end rest) → next ≡ drop (end + 1) rest → (front ++ line ∷ []) ++ lines next ≡ lines text
cut_more front rest text line next end h e lt l n =
    let lt' : position_or_len is_feed rest < length rest = omega (arith, e) in
    let m = lines_more rest lt' in
    let same : line ∷ lines next ≡ lines rest = rw (l, n, e) (sym m) in
    append_assoc front (line ∷ []) (lines next) ∙ ap (λ x. front ++ x) same ∙ h

-- after the last line is found, the lines found are all lines
pub cut_last : (front : List (List ℕ)) (rest text line : List ℕ) (end : ℕ) → front ++ lines rest ≡ lines text → end ≡ position_or_len is_feed rest → end ≡ length rest → 0 < length rest → line ≡ strip_carriage_return (take end rest) → front ++ line ∷ [] ≡ lines text
cut_last front rest text line end h e last some l =
    let same : line ∷ [] ≡ lines rest = rw (l, last, take_all (length rest) rest (omega arith)) (sym (lines_last rest some (sym e ∙ last))) in
    ap (λ x. front ++ x) same ∙ h
