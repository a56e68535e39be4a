-- A text spells at most one list of pieces.
use Rattle.std.proofs.Common.{◌≡◌, ℕ, suc, ◌+◌, ◌<◌, ◌≤◌, Bool, true, false, eqb, ◌||◌, List, [], ◌∷◌, ◌++◌, length, take, drop, refl, sym, ap, ◌∙◌, inl, inr, arith, length-append}
use Rattle.std.specs.List.{prefix_len, AllPass, All}
use Rattle.std.proofs.lemmas.Bool.Decides.{nat_tests}
use Rattle.std.proofs.lemmas.Bool.{cases_lt, cases_Bool, eqb-true, eq-eqb, eqb-false, false≢true}
use Rattle.std.proofs.lemmas.List.{append_assoc, take-append-drop, drop_at, take_at, drop_more, drop_all, get_or-take, length-drop}
use Rattle.std.proofs.lemmas.List.Elements.{All-head, All-tail, All-nil, All-cons, All-weaker, All-from_get_or}
use Rattle.std.proofs.lemmas.List.Folds.{length-prefix_len}
use Rattle.std.proofs.lemmas.List.Sums.{prefix_len_passes, prefix_len_stops}
use Rattle.a2_text.specs.Bytes.{is_blank}
use Rattle.a2_text.specs.Words.{after_blanks}
use Rattle.a2_syntax.specs.Names.{is_name_byte}
use Rattle.a2_syntax.specs.Numbers.{is_quote, is_quotable}
use Rattle.a2_syntax.specs.Pieces.{is_sign, is_mark, EndsRun, IsNameRun, IsPiece, IsAfterSpaces, is_over, Spells}
use Rattle.a2_syntax.specs.Reading.{run_len, closed_len, quoted_len, marked_len, piece_len}

-- Prefixes whose bytes pass

abbrev pub Stops : (ℕ → Bool) → List ℕ → Type 0
Stops p [] = Unit {0}
Stops p (c ∷ cs) = p c ≡ false

front-length : (p : ℕ → Bool) (front rest : List ℕ) → AllPass p front → Stops p rest → prefix_len p (front ++ rest) ≡ length front
front-length p [] [] h s = refl
front-length p [] (y ∷ ys) h s = rw s refl
front-length p (x ∷ xs) ys h s =
    let more = front-length p xs ys (All-tail (λ c. p c ≡ true) x xs h) s in
    rw (All-head (λ c. p c ≡ true) x xs h) (omega (arith, more))

-- the bytes before the first one that fails, and the rest
pub front-one : (p : ℕ → Bool) (front rest : List ℕ) → AllPass p front → Stops p rest
    → (let n = prefix_len p (front ++ rest) in (n ≡ length front) × (take n (front ++ rest) ≡ front) × (drop n (front ++ rest) ≡ rest))
front-one p front rest h s = let n = front-length p front rest h s in (n, rw n (take_at front rest (length front) refl), rw n (drop_at front rest (length front) refl))

front-passes : (p : ℕ → Bool) (xs : List ℕ) → AllPass p (take (prefix_len p xs) xs)
front-passes p xs = All-from_get_or (λ c. p c ≡ true) (take (prefix_len p xs) xs) 0 (λ i lt.
    let below : i < prefix_len p xs = omega (arith, length-prefix_len p xs) in
    rw (get_or-take (prefix_len p xs) xs i 0 below) (prefix_len_passes p xs i 0 below))

rest-stops : (p : ℕ → Bool) (xs : List ℕ) → Stops p (drop (prefix_len p xs) xs)
rest-stops p xs = elim (cases_lt (prefix_len p xs) (length xs)) [
  | inl lt ↦ rw (drop_more xs (prefix_len p xs) 0 lt) (prefix_len_stops p xs 0 lt)
  | inr ge ↦ rw (drop_all (prefix_len p xs) xs ge) tt
]

pub following-self : (text : List ℕ) → IsAfterSpaces text (after_blanks text)
following-self text = (take (prefix_len is_blank text) text, front-passes is_blank text, sym (take-append-drop (prefix_len is_blank text) text))

pub following-is : (text rest : List ℕ) → IsAfterSpaces text rest → Stops is_blank rest → after_blanks text ≡ rest
following-is text rest (gap, blank, whole) s = rw whole (front-one is_blank gap rest blank s).2

pub following-within : (text here : List ℕ) → here ≡ after_blanks text → length here ≤ length text
following-within text here e = omega (arith, ap length e, length-drop (prefix_len is_blank text) text)

-- Kinds of bytes

mark-kind : (c : ℕ) → is_mark c ≡ true → is_sign c ≡ false
mark-kind c h = grind (arith, nat_tests)

quote-kind : (c : ℕ) → is_quote c ≡ true → (is_sign c ≡ false) × (is_mark c ≡ false)
quote-kind c h = (grind (arith, nat_tests), grind (arith, nat_tests))

name-kind : (c : ℕ) → is_name_byte c ≡ true → (is_sign c ≡ false) × (is_mark c ≡ false) × (is_quote c ≡ false)
name-kind c h = (grind (arith, nat_tests), grind (arith, nat_tests), grind (arith, nat_tests))

pub name-first : (c : ℕ) → is_name_byte c ≡ true → (is_blank c ≡ false) × (eqb c 59 ≡ false) × (eqb c 42 ≡ false)
name-first c h = (grind (arith, nat_tests), grind (arith, nat_tests), grind (arith, nat_tests))

sign-first : (c : ℕ) → (is_sign c || is_mark c || is_quote c) ≡ true → (is_blank c ≡ false) × (eqb c 59 ≡ false)
sign-first c h = (grind (arith, nat_tests), grind (arith, nat_tests))

quote-stops : (q : ℕ) → is_quotable q q ≡ false
quote-stops q = grind (arith, nat_tests)

-- Pieces

ends-stops : (ys : List ℕ) → (EndsRun ys → Stops is_name_byte ys) × (Stops is_name_byte ys → EndsRun ys)
ends-stops [] = (λ s. s, λ s. s)
ends-stops (y ∷ ys) = (λ s. s, λ s. s)

pub run-front : (xs : List ℕ) → 0 < run_len xs → IsNameRun (take (run_len xs) xs) (drop (run_len xs) xs)
run-front xs h = (omega (arith, length-prefix_len is_name_byte xs), front-passes is_name_byte xs, (ends-stops (drop (run_len xs) xs)).1 (rest-stops is_name_byte xs))

run-length : (run rest : List ℕ) → IsNameRun run rest → run_len (run ++ rest) ≡ length run
run-length run rest (some, passes, ends) = front-length is_name_byte run rest passes ((ends-stops rest).0 ends)

quoted-length : (q : ℕ) (text rest : List ℕ) → AllPass (is_quotable q) text → quoted_len q ((text ++ q ∷ []) ++ rest) ≡ length text + 2
quoted-length q text rest h =
    let (n, _, rest_is) = front-one (is_quotable q) text (q ∷ rest) h (quote-stops q) in
    rw (append_assoc text (q ∷ []) rest, rest_is, n, eq-eqb q q refl) refl

-- how a piece begins, and how long it is
pub piece-front : (piece rest : List ℕ) → IsPiece piece rest
    → (0 < length piece) × Stops is_blank (piece ++ rest) × (is_over (piece ++ rest) ≡ false) × (piece_len (piece ++ rest) ≡ length piece)
piece-front piece rest (inl (c, e, s)) = let (blank, over) = sign-first c (rw s refl) in rw e (omega arith, blank, over, rw s refl)
piece-front piece rest (inr (inl (c, run, e, m, h))) =
    let s = mark-kind c m in
    let (blank, over) = sign-first c (rw (s, m) refl) in
    let n = run-length run rest h in
    rw e (omega arith, blank, over, rw (s, m, n) (grind (arith, nat_tests, h.0)))
piece-front piece rest (inr (inr (inl (q, text, (is, h, e))))) =
    let (s, m) = quote-kind q is in
    let (blank, over) = sign-first q (rw (s, m, is) refl) in
    rw e (omega arith, blank, over, rw (s, m, is, quoted-length q text rest h) (omega (arith, length-append text (q ∷ []))))
piece-front [] rest (inr (inr (inr h))) = absurd (omega (arith, h.0))
piece-front (c ∷ cs) rest (inr (inr (inr h))) =
    let is = All-head (λ x. is_name_byte x ≡ true) c cs h.1 in
    let (blank, over, _) = name-first c is in
    let (s, m, q) = name-kind c is in
    (omega arith, blank, over, rw (s, m, q) (run-length (c ∷ cs) rest h))

-- the prefix with the length of a piece is a piece
mark-front : (c : ℕ) (cs : List ℕ) → is_mark c ≡ true → 0 < marked_len cs → IsPiece (take (marked_len cs) (c ∷ cs)) (drop (marked_len cs) (c ∷ cs))
mark-front c cs m h = elim (cases_Bool (eqb (run_len cs) 0)) [
  | inl none ↦ absurd (omega (arith, rw none at h))
  | inr some ↦
      let n : marked_len cs ≡ suc (run_len cs) = rw some (omega arith) in
      rw n (inr (inl (c, take (run_len cs) cs, refl, m, run-front cs (omega (arith, eqb-false _ 0 some)))))
]

quote-front : (q : ℕ) (cs : List ℕ) → is_quote q ≡ true → 0 < quoted_len q cs → IsPiece (take (quoted_len q cs) (q ∷ cs)) (drop (quoted_len q cs) (q ∷ cs))
quote-front q cs is h =
    let n = prefix_len (is_quotable q) cs in
    let text = take n cs in
    let (rest, closed, long) = closed-some n (drop n cs) h in
    let whole : (q ∷ text ++ q ∷ []) ++ rest ≡ q ∷ cs = ap (λ x. q ∷ x) (append_assoc text (q ∷ []) rest ∙ ap (λ x. text ++ x) (sym closed) ∙ take-append-drop n cs) in
    let same : length (q ∷ text ++ q ∷ []) ≡ quoted_len q cs = omega (arith, long, length-append text (q ∷ []), length-prefix_len (is_quotable q) cs) in
    inr (inr (inl (q, text, (is, front-passes (is_quotable q) cs, ap (take (quoted_len q cs)) (sym whole) ∙ take_at (q ∷ text ++ q ∷ []) rest (quoted_len q cs) same))))
  where
    closed-some : (n : ℕ) (r : List ℕ) → 0 < closed_len q n r → (rest : List ℕ) × (r ≡ q ∷ rest) × (closed_len q n r ≡ n + 2)
    closed-some n [] h = absurd (omega (arith, h))
    closed-some n (c ∷ cs) h = elim (cases_Bool (eqb c q)) [
      | inl e ↦ (cs, ap (λ x. x ∷ cs) (eqb-true c q e), rw e refl)
      | inr e ↦ absurd (omega (arith, rw e at h))
    ]

front-piece : (text : List ℕ) → 0 < piece_len text → IsPiece (take (piece_len text) text) (drop (piece_len text) text)
front-piece [] h = absurd (omega (arith, h))
front-piece (c ∷ cs) h = elim (cases_Bool (is_sign c)) [
  | inl s ↦ rw s (inl (c, refl, s))
  | inr s ↦ elim (cases_Bool (is_mark c)) [
    | inl m ↦ rw (s, m) (mark-front c cs m (rw (s, m) at h))
    | inr m ↦ elim (cases_Bool (is_quote c)) [
      | inl q ↦ rw (s, m, q) (quote-front c cs q (rw (s, m, q) at h))
      | inr q ↦ rw (s, m, q) (inr (inr (inr (run-front (c ∷ cs) (rw (s, m, q) at h)))))
    ]
  ]
]

-- Texts

pub Spells-over : (text : List ℕ) → is_over (after_blanks text) ≡ true → Spells text []
Spells-over text h = (after_blanks text, following-self text, h)

-- a text that is not over spells its first piece, and then the pieces of the rest
pub Spells-more : (text here : List ℕ) (ps : List (List ℕ)) → here ≡ after_blanks text → 0 < piece_len here → Spells (drop (piece_len here) here) ps
    → Spells text (take (piece_len here) here ∷ ps)
Spells-more text here ps e some h = (here, drop (piece_len here) here, rw e (following-self text), sym (take-append-drop (piece_len here) here), front-piece here some, h)

-- it has no other pieces
abbrev pub SpellsAt : List ℕ → List (List ℕ) → Type 0
SpellsAt here [] = is_over here ≡ true
SpellsAt here (p ∷ ps) = (is_over here ≡ false) × (0 < piece_len here) × (p ≡ take (piece_len here) here) × Spells (drop (piece_len here) here) ps

pub Spells-at : (text : List ℕ) (ps : List (List ℕ)) → Spells text ps → SpellsAt (after_blanks text) ps
Spells-at text [] (rest, following, over) = rw (following-is text rest following (stops rest over)) over
  where
    stops : (rest : List ℕ) → is_over rest ≡ true → Stops is_blank rest
    stops [] h = tt
    stops (c ∷ cs) h = rw (eqb-true c 59 h) refl
Spells-at text (p ∷ ps) (rest, after, following, is, piece, more) =
    let (some, stops, over, n) = piece-front p after piece in
    let here : after_blanks text ≡ p ++ after = following-is text rest following (rw is stops) ∙ is in
    rw (here, n) (over, some, sym (take_at p after (length p) refl), rw (drop_at p after (length p) refl) more)

pub Spells-parts : (text here : List ℕ) (ps : List (List ℕ)) → here ≡ after_blanks text → is_over here ≡ false → Spells text ps
    → (0 < piece_len here) × (more : List (List ℕ)) × Spells (drop (piece_len here) here) more
Spells-parts text here [] e over h = absurd (false≢true (sym over ∙ ap is_over e ∙ Spells-at text [] h))
Spells-parts text here (p ∷ ps) e over h = let (_, some, _, more) = Spells-at text (p ∷ ps) h in rw e (some, ps, more)

pub Spells-one : (text : List ℕ) (ps qs : List (List ℕ)) → Spells text ps → Spells text qs → ps ≡ qs
Spells-one text [] [] h k = refl
Spells-one text [] (q ∷ qs) h k = absurd (false≢true (sym (Spells-at text (q ∷ qs) k).0 ∙ Spells-at text [] h))
Spells-one text (p ∷ ps) [] h k = absurd (false≢true (sym (Spells-at text (p ∷ ps) h).0 ∙ Spells-at text [] k))
Spells-one text (p ∷ ps) (q ∷ qs) h k =
    let (_, _, e, more) = Spells-at text (p ∷ ps) h in
    let (_, _, f, others) = Spells-at text (q ∷ qs) k in
    λ i. (e ∙ sym f) i ∷ Spells-one (drop (piece_len (after_blanks text)) (after_blanks text)) ps qs more others i

-- no piece is longer than the text
pub Spells-short : (text : List ℕ) (ps : List (List ℕ)) → Spells text ps → All (λ p. length p ≤ length text) ps
Spells-short text [] h = All-nil (λ p. length p ≤ length text)
Spells-short text (p ∷ ps) (rest, after, (gap, blank, whole), is, piece, more) =
    let front : length text ≡ length gap + length rest = ap length whole ∙ length-append gap rest in
    let back : length rest ≡ length p + length after = ap length is ∙ length-append p after in
    All-cons (λ q. length q ≤ length text) p ps (omega (arith, front, back))
    (All-weaker (λ q. length q ≤ length after) (λ q. length q ≤ length text) (λ q h. omega (arith, front, back, h)) ps (Spells-short after ps more))
