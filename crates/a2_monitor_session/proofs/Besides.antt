-- Lines with notes, one after another.
use Rattle.std.proofs.Common.{◌≡◌, ℕ, ◌+◌, ◌<◌, not, eqb, Bool, true, false, List, [], ◌∷◌, ◌++◌, length, take, drop, get_or, refl, sym, ap, ap₂, ◌∙◌, subst, arith, append_assoc}
use Rattle.std.specs.Prelude.{All, codes}
use Rattle.std.specs.List.{flat_map, prefix_len}
use Rattle.std.proofs.lemmas.List.{append-nil, take-append-drop, drop_more, get_or-take}
use Rattle.std.proofs.lemmas.List.Elements.{All-nil, All-cons, All-append, All-from_get_or}
use Rattle.std.proofs.lemmas.List.Sums.{prefix_len_passes, prefix_len_stops}
use Rattle.std.proofs.lemmas.List.Folds.{length-prefix_len}
use Rattle.std.proofs.lemmas.Grind.{flat_map-append}
use Rattle.std.proofs.lemmas.Bool.{not-true, eqb-true}
use Rattle.a2_monitor_session.specs.Besides.{IsPlain, Row, IsRow, line_without_note, line_with_note}

abbrev pub in_line : ℕ → Bool
in_line c = not (eqb c 10)

-- the beginning of a text up to the end of its first line contains no end of a line
pub front-plain : (text : List ℕ) → IsPlain (take (prefix_len in_line text) text)
front-plain text = All-from_get_or (λ c. eqb c 10 ≡ false) (take n text) 0 plain
  where
    n : ℕ
    n = prefix_len in_line text

    plain : (i : ℕ) → i < length (take n text) → eqb (get_or (take n text) i 0) 10 ≡ false
    plain i lt =
        let l : i < n = omega (arith, lt, length-prefix_len in_line text) in
        ap (λ c. eqb c 10) (get_or-take n text i 0 l) ∙ not-true _ (prefix_len_passes in_line text i 0 l)

no-not : (b : Bool) → not b ≡ false → b ≡ true
no-not true h = refl
no-not false h = cc

-- a text with an end of a line is a line, its end, and a rest
pub line-and-rest : (text : List ℕ) → prefix_len in_line text < length text
    → take (prefix_len in_line text) text ++ (codes "\n" ++ drop (prefix_len in_line text + 1) text) ≡ text
line-and-rest text l =
    let n = prefix_len in_line text in
    let feed : get_or text n 0 ≡ 10 = eqb-true _ 10 (no-not _ (prefix_len_stops in_line text 0 l)) in
    ap (λ c. take n text ++ c ∷ drop (n + 1) text) (sym feed)
    ∙ ap (λ xs. take n text ++ xs) (sym (drop_more text n 0 l))
    ∙ take-append-drop n text

-- these lines of a text with their notes, and a rest
pub record Sofar (text whole rest : List ℕ) : Type 0 where
  pub rows : List Row
  pub are_rows : All IsRow rows
  pub text_is : flat_map line_without_note rows ++ rest ≡ text
  pub whole_is : whole ≡ flat_map line_with_note rows

-- one more line
pub sofar-more : (text whole rest line told next more : List ℕ) (end : ℕ) → Sofar text whole rest
    → end ≡ prefix_len in_line rest → end < length rest → line ≡ take end rest → next ≡ drop (end + 1) rest
    → IsPlain told → more ≡ whole ++ (line ++ told ++ codes "\n") → Sofar text more next
sofar-more text whole rest line told next more end far end_is l line_is next_is plain more_is = record {
  rows = far.rows ++ row ∷ [];
  are_rows = All-append IsRow far.rows (row ∷ []) far.are_rows (All-cons IsRow row [] (line_plain, plain) (All-nil IsRow));
  text_is =
      ap (λ xs. xs ++ next) (flat_map-append line_without_note far.rows (row ∷ []) ∙ ap (λ xs. flat_map line_without_note far.rows ++ xs) (append-nil (line_without_note row)))
      ∙ append_assoc (flat_map line_without_note far.rows) (line_without_note row) next
      ∙ ap (λ xs. flat_map line_without_note far.rows ++ xs) (append_assoc line (codes "\n") next ∙ split)
      ∙ far.text_is;
  whole_is =
      more_is
      ∙ ap₂ (λ xs ys. xs ++ ys) far.whole_is (sym (append-nil (line_with_note row)))
      ∙ sym (flat_map-append line_with_note far.rows (row ∷ []));
}
  where
    row : Row
    row = record { line = line; told = told }

    line_plain : IsPlain line
    line_plain = subst IsPlain (sym (line_is ∙ ap (λ n. take n rest) end_is)) (front-plain rest)

    split : line ++ (codes "\n" ++ next) ≡ rest
    split =
        ap₂ (λ xs ys. xs ++ (codes "\n" ++ ys)) (line_is ∙ ap (λ n. take n rest) end_is) (next_is ∙ ap (λ n. drop (n + 1) rest) end_is)
        ∙ line-and-rest rest (omega (arith, l, end_is))
