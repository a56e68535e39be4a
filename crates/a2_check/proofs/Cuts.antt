-- The lines of a text contain no line feed, and a line with its end is a text of one line.
use Rattle.std.proofs.Common.{◌≡◌, ◌≢◌, ℕ, ◌-◌, ◌≤◌, Bool, true, false, eqb, ltb, cond, List, [], ◌∷◌, ◌++◌, length, map, take, get_or, Bor, None, refl, sym, ap, ◌∙◌, subst, inl, inr, arith, length-append}
use Rattle.std.specs.List.{All, slice_split, onto_first}
use Rattle.std.specs.Str.Lines.{strip_carriage_return}
use Rattle.std.proofs.lemmas.Bool.{cases_Bool, eqb-false, ne_eqb, le-ltb}
use Rattle.std.proofs.lemmas.List.{append_assoc, length_push}
use Rattle.std.proofs.Math.Seq.{get_or-append_seam, take-append_seam}
use Rattle.std.proofs.lemmas.List.Elements.{All-nil, All-cons, All-head, All-tail, All-same, All-append, All-take, All-weaker}
use Rattle.std.proofs.lemmas.List.Splits.{slice_split_at, slice_split-cons_yes, slice_split-cons_no}
use Rattle.a2_text.specs.Lines.{lines, lines_of_pieces}
use Rattle.a2_syntax.specs.Limits.{size_error}
use Rattle.a2_syntax.specs.Bare.{BareLine}
use Rattle.a2_syntax.specs.Grammar.{IsLine}
use Rattle.a2_syntax.specs.Sources.{AreLines, IsSource, IsSourceError}
use Rattle.a2_syntax.specs.declared.fault.Fault.{Fault}
use Rattle.a2_syntax.proofs.OneReading.{refused-none}

abbrev is_feed : ℕ → Bool
is_feed c = eqb c 10

-- a text without a line feed
abbrev pub IsWhole : List ℕ → Type 0
IsWhole line = All (λ c. c ≢ 10) line

longer : (x : ℕ) (ps : List (List ℕ)) → x ≢ 10 → All IsWhole ps → All IsWhole (onto_first x ps)
longer x [] h k = All-cons IsWhole (x ∷ []) [] (All-cons (λ c. c ≢ 10) x [] h (All-nil (λ c. c ≢ 10))) (All-nil IsWhole)
longer x (p ∷ ps) h k =
    All-cons IsWhole (x ∷ p) ps (All-cons (λ c. c ≢ 10) x p h (All-head IsWhole p ps k)) (All-tail IsWhole p ps k)

pieces-whole : (text : List ℕ) → All IsWhole (slice_split is_feed text)
pieces-whole [] = All-cons IsWhole [] [] (All-nil (λ c. c ≢ 10)) (All-nil IsWhole)
pieces-whole (x ∷ xs) = elim (cases_Bool (is_feed x)) [
  | inl h ↦
      All-same IsWhole _ _ (slice_split-cons_yes is_feed x xs h)
      (All-cons IsWhole [] (slice_split is_feed xs) (All-nil (λ c. c ≢ 10)) (pieces-whole xs))
  | inr h ↦ All-same IsWhole _ _ (slice_split-cons_no is_feed x xs h) (longer x (slice_split is_feed xs) (eqb-false x 10 h) (pieces-whole xs))
]

cond-whole : (b : Bool) (front piece : List ℕ) → IsWhole front → IsWhole piece → IsWhole (cond b front piece)
cond-whole true front piece h k = h
cond-whole false front piece h k = k

stripped-whole : (piece : List ℕ) → IsWhole piece → IsWhole (strip_carriage_return piece)
stripped-whole piece h = cond-whole (eqb (get_or piece (length piece - 1) 0) 13) (take (length piece - 1) piece) piece (All-take (λ c. c ≢ 10) (length piece - 1) piece h) h

cond-all : (b : Bool) (ps qs : List (List ℕ)) → All IsWhole ps → All IsWhole qs → All IsWhole (cond b ps qs)
cond-all true ps qs h k = h
cond-all false ps qs h k = k

kept-whole : (ps : List (List ℕ)) → All IsWhole ps → All IsWhole (lines_of_pieces ps)
kept-whole [] h = All-nil IsWhole
kept-whole (p ∷ []) h =
    cond-all (eqb (length p) 0) [] (strip_carriage_return p ∷ []) (All-nil IsWhole)
    (All-cons IsWhole (strip_carriage_return p) [] (stripped-whole p (All-head IsWhole p [] h)) (All-nil IsWhole))
kept-whole (p ∷ q ∷ qs) h =
    All-cons IsWhole (strip_carriage_return p) (lines_of_pieces (q ∷ qs)) (stripped-whole p (All-head IsWhole p (q ∷ qs) h))
    (kept-whole (q ∷ qs) (All-tail IsWhole p (q ∷ qs) h))

lines-whole : (text : List ℕ) → All IsWhole (lines text)
lines-whole text = kept-whole (slice_split is_feed text) (pieces-whole text)

unmapped : (xs : List (Bor (List ℕ))) → All IsWhole (map (λ x. x.now) xs) → All (λ x. IsWhole x.now) xs
unmapped [] h = All-nil (λ (x : Bor (List ℕ)). IsWhole x.now)
unmapped (x ∷ xs) h =
    All-cons (λ (y : Bor (List ℕ)). IsWhole y.now) x xs (All-head IsWhole x.now (map (λ y. y.now) xs) h)
    (unmapped xs (All-tail IsWhole x.now (map (λ y. y.now) xs) h))

-- no line of a text contains a line feed
pub cut-whole : (text : List ℕ) (found : List (Bor (List ℕ))) → map (λ x. x.now) found ≡ lines text → All (λ x. IsWhole x.now) found
cut-whole text found e = unmapped found (All-same IsWhole _ _ e (lines-whole text))

unended : (line : List ℕ) → strip_carriage_return (line ++ 13 ∷ []) ≡ line
unended line =
    let count : length (line ++ 13 ∷ []) - 1 ≡ length line = omega (arith, length_push line 13) in
    rw (count, get_or-append_seam line 13 [] 0, take-append_seam line (13 ∷ [])) refl

-- a line followed by its end
pub one-line : (line text : List ℕ) → text ≡ line ++ 13 ∷ 10 ∷ [] → IsWhole line → lines text ≡ line ∷ []
one-line line text e whole =
    let ready : All (λ c. is_feed c ≡ false) (line ++ 13 ∷ []) =
    All-append (λ c. is_feed c ≡ false) line (13 ∷ []) (All-weaker (λ c. c ≢ 10) (λ c. is_feed c ≡ false) (λ c h. ne_eqb c 10 h) line whole)
    (All-cons (λ c. is_feed c ≡ false) 13 [] refl (All-nil (λ c. is_feed c ≡ false))) in
    ap lines (e ∙ sym (append_assoc line (13 ∷ []) (10 ∷ [])))
    ∙ ap lines_of_pieces (slice_split_at is_feed (line ++ 13 ∷ []) 10 [] ready refl)
    ∙ ap (λ (x : List ℕ). x ∷ []) (unended line)

pub one-fits : (line text : List ℕ) → text ≡ line ++ 13 ∷ 10 ∷ [] → IsWhole line → length line ≤ 255 → size_error text ≡ None
one-fits line text e whole short =
    let few : ltb 65536 (length text) ≡ false = le-ltb 65536 (length text) (omega (arith, ap length e, length-append line (13 ∷ 10 ∷ []), short)) in
    let low : ltb 255 (length line) ≡ false = le-ltb 255 (length line) short in
    rw (few, one-line line text e whole, low) refl

first-read : (line : List ℕ) (source : List BareLine) → AreLines (line ∷ []) source → (read : BareLine) × IsLine line read
first-read line [] h = absurd h
first-read line (read ∷ more) h = (read, h.0)

-- the line is in the grammar if the text of this one line is
pub read-line : (line text : List ℕ) (source : List BareLine) → text ≡ line ++ 13 ∷ 10 ∷ [] → IsWhole line → IsSource text source → (read : BareLine) × IsLine line read
read-line line text source e whole is =
    let P : List (List ℕ) → Type 0 = λ texts. AreLines texts source in
    first-read line source (subst P (one-line line text e whole) is.1)

-- and it is not in the grammar if that text has an error
pub unread-line : (line text : List ℕ) (fault : Fault) → text ≡ line ++ 13 ∷ 10 ∷ [] → IsWhole line → length line ≤ 255 → IsSourceError text fault → (read : BareLine) → IsLine line read → ⊥
unread-line line text fault e whole short refused read is =
    let P : List (List ℕ) → Type 0 = λ texts. AreLines texts (read ∷ []) in
    refused-none text fault (read ∷ []) refused (one-fits line text e whole short, subst P (sym (one-line line text e whole)) (is, tt))
