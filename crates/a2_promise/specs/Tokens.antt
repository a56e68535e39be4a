-- The words and signs of a line of a promise. This project's profile.
use Rattle.std.specs.Prelude.{ℕ, zero, suc, Bool, ◌&&◌, ◌||◌, ◌==◌, nat_lt, List, [], ◌∷◌, length, take, drop, Option, Some, None, if◌then◌else◌}
use Rattle.std.specs.List.{prefix_len}
use Rattle.a2_text.specs.Bytes.{is_between, is_digit, is_hex_digit, capital}
use Rattle.a2_text.specs.Signs.{sign as code}
use Rattle.a2_text.specs.Words.{after_blanks}
use Rattle.a2_syntax.specs.Names.{is_name_byte}
use Rattle.a2_syntax.specs.Numbers.{is_quote, is_quotable}

-- a token: letters, digits and `_`, beginning with a letter; decimal digits; hexadecimal digits after a `$`; a sign,
-- or two that form one token; or a quoted text. There may be spaces between tokens.
pub data Token : Type 0 where
  word : List ℕ → Token
  decimal : List ℕ → Token
  place : List ℕ → Token
  sign : List ℕ → Token
  quoted : ℕ → List ℕ → Token

abbrev pub is_letter : ℕ → Bool
is_letter c = is_between (code "A") (code "Z") (capital c)

-- two signs that form one token
abbrev pub is_double : ℕ → ℕ → Bool
is_double c d =
    (c == code "<" && (d == code "=" || d == code ">")) || (c == code ">" && d == code "=") || (c == code "." && d == code ".")

-- the bytes at the start of a text that pass a test, and what follows them
abbrev pub front : (ℕ → Bool) → List ℕ → List ℕ
front test text = take (prefix_len test text) text

abbrev pub following : (ℕ → Bool) → List ℕ → List ℕ
following test text = drop (prefix_len test text) text

-- a sign whose first byte is already read
abbrev pub sign_from : ℕ → List ℕ → Token × List ℕ
sign_from c [] = (sign (c ∷ []), [])
sign_from c (d ∷ rest) = if is_double c d then (sign (c ∷ d ∷ []), rest) else (sign (c ∷ []), d ∷ rest)

-- one or more characters up to the next quote; a quote that is not closed is a sign
abbrev pub quoted_from : ℕ → List ℕ → List ℕ → List ℕ → Token × List ℕ
quoted_from quote text [] rest = (sign (quote ∷ []), rest)
quoted_from quote text (c ∷ more) rest =
    if c == quote && nat_lt 0 (length text) then (quoted quote text, more) else (sign (quote ∷ []), rest)

-- the token at the start of a text, and what follows it
abbrev pub token_from : List ℕ → Option (Token × List ℕ)
token_from [] = None
token_from (c ∷ rest) = Some (
    if c == code "$" then (place (front is_hex_digit rest), following is_hex_digit rest)
    else if is_digit c then (decimal (c ∷ front is_digit rest), following is_digit rest)
    else if is_letter c then (word (c ∷ front is_name_byte rest), following is_name_byte rest)
    else if is_quote c then quoted_from c (front (is_quotable c) rest) (following (is_quotable c) rest) rest
    else sign_from c rest)

-- the first tokens of a text, at most this many
abbrev pub tokens_up_to : ℕ → List ℕ → List Token
tokens_up_to zero text = []
tokens_up_to (suc n) text = elim (token_from (after_blanks text)) [ None ↦ [] | Some found ↦ found.0 ∷ tokens_up_to n found.1 ]

-- all tokens of a text; there are no more tokens than bytes
unfoldable pub tokens : List ℕ → List Token
tokens text = tokens_up_to (length text) text
