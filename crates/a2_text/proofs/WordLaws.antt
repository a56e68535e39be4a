-- The first word of a text, and the words after it.
use Rattle.std.proofs.Common.{◌≡◌, ℕ, suc, ◌+◌, ◌<◌, ◌≤◌, Bool, true, false, not, ltb, List, [], ◌∷◌, length, get_or, take, drop, inl, inr, refl, sym, ap, ◌∙◌, arith}
use Rattle.std.specs.List.{slice_split, position_or_len, prefix_len, filter, before_first, after_first}
use Rattle.std.proofs.lemmas.Bool.{cases_Bool, cases_lt, cond-true, cond-false, lt-ltb, not-true}
use Rattle.std.proofs.lemmas.List.{drop_more, drop_all, take_all, length-take-le, length-drop}
use Rattle.std.proofs.lemmas.List.Splits.{slice_split_first, slice_split_none, slice_split-cons_yes}
use Rattle.std.proofs.lemmas.List.Sums.{prefix_len-le-length, prefix_len_passes, passes_at_first}
use Rattle.std.proofs.lemmas.List.Elements.{All-from_get_or}
use Rattle.a2_text.specs.Bytes.{is_blank}
use Rattle.a2_text.specs.Words.{after_blanks, words}

abbrev is_some_piece : List ℕ → Bool
is_some_piece piece = ltb 0 (length piece)

-- a blank at the front does not change the words
pub words-blank : (c : ℕ) (text : List ℕ) → is_blank c ≡ true → words (c ∷ text) ≡ words text
words-blank c text h = ap (filter is_some_piece) (slice_split-cons_yes is_blank c text h)

after_blanks-blank : (c : ℕ) (text : List ℕ) → is_blank c ≡ true → after_blanks (c ∷ text) ≡ after_blanks text
after_blanks-blank c text h =
    let more : 1 + prefix_len is_blank text ≡ suc (prefix_len is_blank text) = omega arith in
    ap (λ (n : ℕ). drop n (c ∷ text)) (cond-true (is_blank c) (1 + prefix_len is_blank text) 0 h ∙ more)

after_blanks-word : (c : ℕ) (text : List ℕ) → is_blank c ≡ false → after_blanks (c ∷ text) ≡ c ∷ text
after_blanks-word c text h = rw (cond-false (is_blank c) (1 + prefix_len is_blank text) 0 h) refl

words-following : (text : List ℕ) → words text ≡ words (after_blanks text)
words-following [] = refl
words-following (c ∷ text) = elim (cases_Bool (is_blank c)) [
  | inl h ↦ words-blank c text h ∙ words-following text ∙ ap words (sym (after_blanks-blank c text h))
  | inr h ↦ ap words (sym (after_blanks-word c text h))
]

pub words-none : (text here : List ℕ) → here ≡ after_blanks text → length here ≡ 0 → words text ≡ []
words-none text [] e h = words-following text ∙ ap words (sym e)
words-none text (c ∷ here) e h = absurd (omega arith)

-- the text after the blanks does not begin with a blank
following-stops : (text : List ℕ) → 0 < length (after_blanks text) → is_blank (get_or (after_blanks text) 0 0) ≡ false
following-stops [] h = absurd (omega arith)
following-stops (c ∷ text) h = elim (cases_Bool (is_blank c)) [
  | inl b ↦ (let e = after_blanks-blank c text b in rw e (following-stops text (rw e at h)))
  | inr b ↦ rw (after_blanks-word c text b) b
]

word-some : (here : List ℕ) → 0 < length here → is_blank (get_or here 0 0) ≡ false → 0 < position_or_len is_blank here
word-some [] h b = absurd (omega arith)
word-some (c ∷ here) h b = rw (cond-true (not (is_blank c)) (1 + position_or_len is_blank here) 0 (ap not b)) (omega arith)

filter-kept : (piece : List ℕ) (pieces : List (List ℕ)) → 0 < length piece → filter is_some_piece (piece ∷ pieces) ≡ piece ∷ filter is_some_piece pieces
filter-kept piece pieces h = cond-true (ltb 0 (length piece)) (piece ∷ filter is_some_piece pieces) (filter is_some_piece pieces) (lt-ltb 0 (length piece) h)

words-cut : (here : List ℕ) (n : ℕ) → n ≡ position_or_len is_blank here → 0 < n → n < length here → words here ≡ take n here ∷ words (drop n here)
words-cut here n e some lt =
    let p : position_or_len is_blank here < length here = omega (arith, e) in
    let front : 0 < length (before_first is_blank here) = omega (arith, e, length-take-le (position_or_len is_blank here) here (omega arith)) in
    let at = drop_more here n 0 lt in
    rw (at, words-blank (get_or here n 0) (drop (n + 1) here) (rw e (passes_at_first is_blank here 0 p)), e)
    (ap (filter is_some_piece) (slice_split_first is_blank here 0 p) ∙ filter-kept (before_first is_blank here) (slice_split is_blank (after_first is_blank here)) front)

words-last : (here : List ℕ) (n : ℕ) → n ≡ position_or_len is_blank here → 0 < n → length here ≤ n → words here ≡ take n here ∷ words (drop n here)
words-last here n e some ge =
    let none = slice_split_none is_blank here (All-from_get_or (λ x. is_blank x ≡ false) here 0 (λ i lt. not-true _ (prefix_len_passes (λ x. not (is_blank x)) here i 0 (omega (arith, e, prefix_len-le-length (λ (x : ℕ). not (is_blank x)) here))))) in
    rw (take_all n here ge, drop_all n here ge)
    (ap (filter is_some_piece) none ∙ filter-kept here [] (omega (arith, e, prefix_len-le-length (λ (x : ℕ). not (is_blank x)) here)))

pub words-first : (text here : List ℕ) (n : ℕ) → here ≡ after_blanks text → 0 < length here → n ≡ position_or_len is_blank here → words text ≡ take n here ∷ words (drop n here)
words-first text here n e some is =
    let stops : is_blank (get_or here 0 0) ≡ false = rw e (following-stops text (rw e at some)) in
    let first : 0 < n = rw is (word-some here some stops) in
    let same : words text ≡ words here = words-following text ∙ ap words (sym e) in
    elim (cases_lt n (length here)) [
      | inl lt ↦ same ∙ words-cut here n is first lt
      | inr ge ↦ same ∙ words-last here n is first ge
    ]

-- the text after the first word is shorter
pub following-shorter : (text here : List ℕ) (n : ℕ) → here ≡ after_blanks text → 0 < length here → n ≡ position_or_len is_blank here → (0 < n) × (length here ≤ length text)
following-shorter text here n e some is =
    let stops : is_blank (get_or here 0 0) ≡ false = rw e (following-stops text (rw e at some)) in
    (rw is (word-some here some stops), rw e (omega (arith, length-drop (prefix_len is_blank text) text)))
