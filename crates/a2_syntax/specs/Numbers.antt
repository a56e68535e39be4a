-- Characters in quotes, and numbers. This project's profile.
use Rattle.std.specs.Prelude.{ℕ, ◌+◌, Bool, ◌&&◌, not, ◌==◌, List, [], ◌∷◌, Option, Some, None, codes, if◌then◌else◌}
use Rattle.a2_text.specs.Bytes.{is_among, is_between, number_in}
use Rattle.a2_text.specs.Signs.{sign}

abbrev pub is_quote : ℕ → Bool
is_quote c = is_among (codes "'\"") c

-- a character that may appear between quotes of this kind: any printable character except the quote
abbrev pub is_quotable : ℕ → ℕ → Bool
is_quotable quote c = is_between 32 126 c && not (c == quote)

-- the code of a character between quotes of this kind; double quotes set bit 7
abbrev pub code_in : ℕ → ℕ → ℕ
code_in quote c = if quote == sign "\"" then c + 128 else c

-- the code of a character that is followed by the closing quote; the opening quote is already read
abbrev pub quoted_character : ℕ → List ℕ → Option ℕ
quoted_character quote (c ∷ q ∷ []) = if is_quotable quote c && q == quote then Some (code_in quote c) else None
quoted_character quote others = None

-- a number: `$` and 1 to 4 hexadecimal digits, `%` and 1 to 16 binary digits, a character in quotes, or 1 to 5
-- decimal digits; at most 65,535
abbrev pub number : List ℕ → Option ℕ
number [] = None
number (c ∷ cs) =
    if c == sign "$" then number_in 16 4 cs else
    if c == sign "%" then number_in 2 16 cs else
    if is_quote c then quoted_character c cs else
    number_in 10 5 (c ∷ cs)
