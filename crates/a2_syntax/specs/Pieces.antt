-- The pieces (tokens) of a text: signs, names, numbers and quoted texts, with optional spaces between them. This
-- project's profile.
use Rattle.std.specs.Prelude.{◌≡◌, ℕ, ◌<◌, Bool, true, false, IsTrue, ◌||◌, ◌==◌, List, [], ◌∷◌, ◌++◌, length, ◌⊎◌, codes}
use Rattle.std.specs.List.{AllPass}
use Rattle.a2_text.specs.Bytes.{is_among, is_blank}
use Rattle.a2_text.specs.Signs.{sign}
use Rattle.a2_syntax.specs.Names.{is_name_byte}
use Rattle.a2_syntax.specs.Numbers.{is_quote, is_quotable}

-- a character that is a piece by itself
abbrev pub is_sign : ℕ → Bool
is_sign c = is_among (codes "#,()<>+-*") c

-- the mark of a number's base
abbrev pub is_mark : ℕ → Bool
is_mark c = is_among (codes "$%") c

-- the next byte, if any, is not a name byte
abbrev pub EndsRun : List ℕ → Type 0
EndsRun [] = Unit {0}
EndsRun (c ∷ cs) = is_name_byte c ≡ false

-- one or more name bytes that are not followed by another one
abbrev pub IsNameRun : List ℕ → List ℕ → Type 0
IsNameRun run rest = (0 < length run) × AllPass is_name_byte run × EndsRun rest

-- characters between quotes of this kind
abbrev pub IsQuoted : ℕ → List ℕ → List ℕ → Type 0
IsQuoted quote text piece = IsTrue (is_quote quote) × AllPass (is_quotable quote) text × (piece ≡ quote ∷ text ++ quote ∷ [])

-- a piece and what follows it. A piece is a sign, a mark and a run of name bytes, a quoted text, or a run of name
-- bytes.
abbrev pub IsPiece : List ℕ → List ℕ → Type 0
IsPiece piece rest =
    ((c : ℕ) × (piece ≡ c ∷ []) × IsTrue (is_sign c)) ⊎
    (((c : ℕ) × (run : List ℕ) × (piece ≡ c ∷ run) × IsTrue (is_mark c) × IsNameRun run rest) ⊎
    (((quote : ℕ) × (text : List ℕ) × IsQuoted quote text piece) ⊎
    IsNameRun piece rest))

-- text consists of spaces followed by rest
abbrev pub IsAfterSpaces : List ℕ → List ℕ → Type 0
IsAfterSpaces text rest = (gap : List ℕ) × AllPass is_blank gap × (text ≡ gap ++ rest)

-- the text is empty, or `;` and a comment, which may hold any byte
abbrev pub is_over : List ℕ → Bool
is_over [] = true
is_over (c ∷ cs) = c == sign ";"

-- the text is empty, or starts with a space or the `;` of a comment
abbrev pub is_gap : List ℕ → Bool
is_gap [] = true
is_gap (c ∷ cs) = is_blank c || c == sign ";"

-- the pieces of a text; there may be spaces before each piece and at the end, and then a comment
abbrev pub Spells : List ℕ → List (List ℕ) → Type 0
Spells text [] = (rest : List ℕ) × IsAfterSpaces text rest × IsTrue (is_over rest)
Spells text (piece ∷ pieces) =
    (rest after : List ℕ) × IsAfterSpaces text rest × (rest ≡ piece ++ after) × IsPiece piece after × Spells after pieces
