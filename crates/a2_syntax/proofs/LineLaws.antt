-- A line has at most one reading.
use Rattle.std.proofs.Common.{◌≡◌, ℕ, ◌<◌, Bool, true, false, eqb, List, [], ◌∷◌, ◌++◌, length, map, take, drop, refl, sym, ap, ◌∙◌, inl, inr, arith, Option, Some, None}
use Rattle.std.specs.List.{AllPass}
use Rattle.std.proofs.lemmas.Bool.{false≢true, eqb-true}
use Rattle.std.proofs.lemmas.Bool.Decides.{nat_tests}
use Rattle.std.proofs.lemmas.List.{take-append-drop}
use Rattle.std.proofs.lemmas.List.Elements.{All-head, All-nil}
use Rattle.a2_text.specs.Bytes.{is_blank, capital}
use Rattle.a2_text.specs.Words.{after_blanks}
use Rattle.a2_syntax.specs.Names.{is_name_byte, is_name}
use Rattle.a2_syntax.specs.Pieces.{is_over, is_gap, Spells}
use Rattle.a2_syntax.specs.Reading.{run_len, is_starred}
use Rattle.a2_syntax.specs.Relations.{Finds}
use Rattle.a2_syntax.specs.Words.{letters_of}
use Rattle.a2_syntax.specs.Grammar.{HasOperation, IsOperation, IsBody, IsLabelled, has_needed_label, IsLine}
use Rattle.a2_syntax.specs.declared.operation.Operation.{Operation}
use Rattle.a2_syntax.specs.declared.source.Body.{Body}
use Rattle.a2_syntax.specs.declared.source.Body.TheVariants.{Empty}
use Rattle.a2_syntax.specs.declared.source.Line.{Line}
use Rattle.a2_syntax.proofs.NameLaws.{name-bytes, word-names, same-letters}
use Rattle.a2_syntax.proofs.PieceLaws.{Stops, front-one, following-is, following-self, name-first, Spells-at, Spells-one}
use Rattle.a2_syntax.proofs.BodyLaws.{IsOperation-one}

-- Names before a gap

gap-first : (after : List ℕ) → is_gap after ≡ true → Stops is_name_byte after × (is_starred after ≡ false)
gap-first [] h = (tt, refl)
gap-first (c ∷ cs) h = byte c h
  where
    byte : (c : ℕ) → is_gap (c ∷ []) ≡ true → (is_name_byte c ≡ false) × (eqb c 42 ≡ false)
    byte c h = (grind (arith, nat_tests), grind (arith, nat_tests))

-- name bytes before a gap are the longest run of name bytes
word-front : (text word after : List ℕ) → text ≡ word ++ after → AllPass is_name_byte word → is_gap after ≡ true → (take (run_len text) text ≡ word) × (drop (run_len text) text ≡ after)
word-front text word after e h gap = let (_, front, back) = front-one is_name_byte word after h (gap-first after gap).0 in rw e (front, back)

-- Bodies

-- what follows a label, depending on whether it is empty or a comment
abbrev BodyAt : {A : Type 0} → Bool → List ℕ → Body A → Type 0
BodyAt true here body = body ≡ Empty
BodyAt false here body =
    (o : Operation) × (ps : List (List ℕ)) × (is_gap (drop (run_len here) here) ≡ true) × (map capital (take (run_len here) here) ≡ letters_of o)
    × Spells (drop (run_len here) here) ps × IsOperation o ps body

body-at : {A : Type 0} (text : List ℕ) (body : Body A) → IsBody text body → BodyAt (is_over (after_blanks text)) (after_blanks text) body
body-at text body (inl (spells, is)) = rw (Spells-at text [] spells) is
body-at text body (inr (o, ps, (rest, word, after, following, is, name, gap, spells), does)) =
    let (some, bytes) = word-names word o name in
    let (stops, over) = begins word some bytes in
    let here : after_blanks text ≡ word ++ after = following-is text rest following (rw is stops) ∙ is in
    let (front, back) = word-front (after_blanks text) word after here bytes gap in
    rw (here, over) (o, ps, rw (← here, back) gap, rw (← here, front) name, rw (← here, back) spells, does)
  where
    begins : (word : List ℕ) → 0 < length word → AllPass is_name_byte word → Stops is_blank (word ++ after) × (is_over (word ++ after) ≡ false)
    begins [] some h = absurd (omega (arith, some))
    begins (c ∷ cs) some h = let (blank, over, _) = name-first c (All-head (λ x. is_name_byte x ≡ true) c cs h) in (blank, over)

pub HasOperation-from : (text here : List ℕ) (o : Operation) (ps : List (List ℕ)) → here ≡ after_blanks text → map capital (take (run_len here) here) ≡ letters_of o
    → is_gap (drop (run_len here) here) ≡ true → Spells (drop (run_len here) here) ps → HasOperation text o ps
HasOperation-from text here o ps e name gap spells =
    (here, take (run_len here) here, drop (run_len here) here, rw e (following-self text), sym (take-append-drop (run_len here) here), name, gap, spells)

pub body-parts : {A : Type 0} (text here word after : List ℕ) → here ≡ after_blanks text → is_over here ≡ false → word ≡ take (run_len here) here → after ≡ drop (run_len here) here
    → (body : Body A) → IsBody text body
    → (o : Operation) × (ps : List (List ℕ)) × (is_gap after ≡ true) × (map capital word ≡ letters_of o) × Spells after ps × IsOperation o ps body
body-parts text here word after e over w a body h = rw (w, a) (rw over at (rw (← e) at (body-at text body h)))

-- the body read from an operation's pieces is the body of the text
pub body-found : {A : Type 0} (text here word after : List ℕ) (o : Operation) (ps : List (List ℕ)) (r : Option (Body A)) → here ≡ after_blanks text → is_over here ≡ false
    → word ≡ take (run_len here) here → after ≡ drop (run_len here) here → is_gap after ≡ true → letters_of o ≡ map capital word → Spells after ps
    → Finds (IsOperation o ps) r → Finds (IsBody text) r
body-found text here word after o ps (Some body) e over w a gap named spells h =
    inr (o, ps, HasOperation-from text here o ps e (rw (← w) (sym named)) (rw (← a) gap) (rw (← a) spells), h)
body-found text here word after o ps None e over w a gap named spells none = λ body h.
    (let (p, qs, _, name, others, does) = body-parts text here word after e over w a body h in
    none body (rw (same-letters o p (named ∙ name), Spells-one after ps qs spells others) does))

pub IsBody-one : {A : Type 0} (text : List ℕ) (a b : Body A) → IsBody text a → IsBody text b → a ≡ b
IsBody-one text a b h k = one (is_over (after_blanks text)) (body-at text a h) (body-at text b k)
  where
    one : (over : Bool) → BodyAt over (after_blanks text) a → BodyAt over (after_blanks text) b → a ≡ b
    one true e f = e ∙ sym f
    one false (o, ps, _, name, spells, does) (p, qs, _, other, others, also) =
        IsOperation-one o ps a b does (rw (same-letters o p (sym name ∙ other), Spells-one _ ps qs spells others) also)

-- Lines

-- the label formed by the name bytes at the start
abbrev pub LabelIs : List ℕ → Option (List ℕ) → Type 0
LabelIs word None = word ≡ []
LabelIs word (Some name) = (name ≡ word) × (is_name word ≡ true)

LabelIs-one : (word : List ℕ) (a b : Option (List ℕ)) → LabelIs word a → LabelIs word b → a ≡ b
LabelIs-one word None None h k = refl
LabelIs-one word None (Some y) h k = absurd (false≢true (rw h at k.1))
LabelIs-one word (Some x) None h k = absurd (false≢true (rw k at h.1))
LabelIs-one word (Some x) (Some y) h k = cc

label-at : (text rest : List ℕ) (label : Option (List ℕ)) → IsLabelled text label rest → is_gap rest ≡ true
    → (is_starred text ≡ false) × LabelIs (take (run_len text) text) label × (drop (run_len text) text ≡ rest)
label-at text rest None e gap =
    let (front, back) = word-front text [] rest e (All-nil (λ c. is_name_byte c ≡ true)) gap in (rw e (gap-first rest gap).1, front, back)
label-at text rest (Some []) (e, is) gap = absurd (false≢true is)
label-at text rest (Some (c ∷ cs)) (e, is) gap =
    let bytes = name-bytes (c ∷ cs) is in
    let (_, _, star) = name-first c (All-head (λ x. is_name_byte x ≡ true) c cs bytes) in
    let (front, back) = word-front text (c ∷ cs) rest e bytes gap in
    (rw e star, (sym front, ap is_name front ∙ is), back)

-- what a line is, depending on whether it begins with `*`
abbrev LineAt : {A : Type 0} → Bool → List ℕ → Line A → Type 0
LineAt true text line = (line.label ≡ None) × (line.body ≡ Empty)
LineAt false text line =
    (is_gap (drop (run_len text) text) ≡ true) × LabelIs (take (run_len text) text) line.label × IsBody (drop (run_len text) text) line.body
    × (has_needed_label line.label line.body ≡ true)

line-at : {A : Type 0} (text : List ℕ) (line : Line A) → IsLine text line → LineAt (is_starred text) text line
line-at text line (inl (comment, e, label, body)) = rw e (label, body)
line-at text line (inr (rest, label, gap, body, fits)) =
    let (plain, word, back) = label-at text rest line.label label gap in
    rw plain (rw back gap, word, rw back body, fits)

pub starred : {A : Type 0} (text : List ℕ) → is_starred text ≡ true → IsLine {A = A} text (record { label = None; body = Empty })
starred [] h = absurd (false≢true h)
starred (c ∷ cs) h = inl (cs, ap (λ z. z ∷ cs) (eqb-true c 42 h), refl, refl)

pub line-parts : {A : Type 0} (text word rest : List ℕ) → is_starred text ≡ false → word ≡ take (run_len text) text → rest ≡ drop (run_len text) text
    → (line : Line A) → IsLine text line → (is_gap rest ≡ true) × LabelIs word line.label × IsBody rest line.body × (has_needed_label line.label line.body ≡ true)
line-parts text word rest plain w r line h = rw (w, r) (rw plain at (line-at text line h))

pub line-from : {A : Type 0} (text word rest : List ℕ) (label : Option (List ℕ)) (body : Body A) → word ≡ take (run_len text) text → rest ≡ drop (run_len text) text
    → is_gap rest ≡ true → LabelIs word label → IsBody rest body → has_needed_label label body ≡ true → IsLine text (record { label = label; body = body })
line-from text word rest label body w r gap is h fits = inr (rest, labelled label is, gap, h, fits)
  where
    whole : text ≡ word ++ rest
    whole = rw (w, r) (sym (take-append-drop (run_len text) text))

    labelled : (label : Option (List ℕ)) → LabelIs word label → IsLabelled text label rest
    labelled None e = whole ∙ ap (λ z. z ++ rest) e
    labelled (Some name) (e, is) = (rw e whole, rw e is)

pub IsLine-one : {A : Type 0} (text : List ℕ) (a b : Line A) → IsLine text a → IsLine text b → a ≡ b
IsLine-one text a b h k = one (is_starred text) (line-at text a h) (line-at text b k)
  where
    one : (starred : Bool) → LineAt starred text a → LineAt starred text b → a ≡ b
    one true (l, m) (l', m') = λ i. record { label = (l ∙ sym l') i; body = (m ∙ sym m') i }
    one false (_, l, m, _) (_, l', m', _) = λ i. record { label = LabelIs-one _ a.label b.label l l' i; body = IsBody-one _ a.body b.body m m' i }

-- a line without a label whose body needs one, and a line whose label is not a valid name
pub unlabelled : {A : Type 0} (rest : List ℕ) (line : Line A) (body : Body A) → LabelIs [] line.label → IsBody rest line.body → IsBody rest body
    → has_needed_label line.label line.body ≡ true → has_needed_label None body ≡ false → ⊥
unlabelled rest line body l h k fits fails =
    false≢true (sym fails ∙ (λ i. has_needed_label (LabelIs-one [] None line.label refl l i) (IsBody-one rest body line.body k h i)) ∙ fits)

pub unnamed : (word : List ℕ) (label : Option (List ℕ)) → LabelIs word label → (length word ≡ 0 → ⊥) → is_name word ≡ false → ⊥
unnamed word None e some fails = some (ap length e)
unnamed word (Some name) (e, is) some fails = false≢true (sym fails ∙ is)
