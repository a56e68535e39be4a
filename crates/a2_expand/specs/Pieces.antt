-- The pieces of the text of an operand. This project's own: docs/manual/language.md has the numbers and the characters, larger-language.md
-- ("Expressions") the signs.
use Rattle.std.specs.Prelude.{ℕ, zero, suc, ◌+◌, Bool, true, false, not, ◌&&◌, ◌||◌, ◌==◌, nat_lt, List, [], ◌∷◌, length, take, drop, codes, Option, Some, None, if◌then◌else◌}
use Rattle.std.specs.List.{prefix_len}
use Rattle.a2_text.specs.Bytes.{is_among, is_digit, number_in}
use Rattle.a2_text.specs.Signs.{sign as code}
use Rattle.a2_text.specs.Words.{after_blanks}
use Rattle.a2_expand.specs.Larger.{is_run_byte}
use Rattle.a2_expand.specs.Expressions.{Piece, number_piece, name_piece, sign, signs, other}

-- the bytes at the start of a text that pass a test, and what follows them
abbrev pub front : (ℕ → Bool) → List ℕ → List ℕ
front test text = take (prefix_len test text) text

abbrev pub following : (ℕ → Bool) → List ℕ → List ℕ
following test text = drop (prefix_len test text) text

-- digits of a base, at most this many, whose value is below 65,536
abbrev pub numeral : ℕ → ℕ → List ℕ → Piece
numeral base most digits = elim (number_in base most digits) [ None ↦ other | Some n ↦ number_piece n ]

-- the code of a character in quotes: bit 7 is set in double quotes
abbrev pub character : ℕ → ℕ → ℕ
character quote c = if quote == code "\"" && nat_lt c 128 then c + 128 else c

-- what stands between quotes
abbrev pub quoted : ℕ → List ℕ → Piece
quoted quote (c ∷ []) = number_piece (character quote c)
quoted quote _ = other

abbrev pub differs : ℕ → ℕ → Bool
differs quote c = not (c == quote)

-- a text after its first quote; the same quote ends it
abbrev pub quoted_from : ℕ → List ℕ → Piece × List ℕ
quoted_from quote text = elim (following (differs quote) text) [ [] ↦ (other, []) | last ∷ rest ↦ (quoted quote (front (differs quote) text), rest) ]

-- two signs that belong together
abbrev pub is_pair : ℕ → ℕ → Bool
is_pair c d = (c == code "<" && is_among (codes "<>=") d) || (c == code ">" && is_among (codes ">=") d)

abbrev pub sign_from : ℕ → List ℕ → Piece × List ℕ
sign_from c [] = (sign c, [])
sign_from c (d ∷ rest) = if is_pair c d then (signs c d, rest) else (sign c, d ∷ rest)

-- a decimal number, or a name, by its first byte
abbrev pub run_piece : ℕ → List ℕ → Piece
run_piece c run = if is_digit c then numeral 10 5 run else if is_run_byte c then name_piece run else other

abbrev pub run_from : ℕ → List ℕ → List ℕ → Piece × List ℕ
run_from c text rest = (run_piece c (front is_run_byte text), if is_run_byte c then following is_run_byte text else rest)

-- a number in base 16 or 2; the dot of a local label is a mark too
abbrev pub marked : ℕ → List ℕ → Piece
marked c run = if c == code "$" then numeral 16 4 run else if c == code "%" then numeral 2 16 run else other

-- `+` or `-`, the signs after the `:` of an anonymous label
abbrev pub label_sign : List ℕ → ℕ
label_sign [] = code "-"
label_sign (c ∷ rest) = if c == code "+" then code "+" else code "-"

abbrev pub is_byte : ℕ → ℕ → Bool
is_byte c d = d == c

abbrev pub after_signs : List ℕ → List ℕ
after_signs text = following (is_byte (label_sign text)) text

-- The piece at the start of a text whose first byte is c, and what follows it. Where a term is expected, `*` is the address of the line and
-- `%` begins a binary number.
abbrev pub piece_from : Bool → ℕ → List ℕ → Piece × List ℕ
piece_from after_term c rest =
    if c == code "*" && not after_term then (other, rest) else
    if c == code "%" && after_term then (sign c, rest) else
    if is_among (codes "$%.") c then (marked c (front is_run_byte rest), following is_run_byte rest) else
    if c == code ":" then (other, after_signs rest) else
    if is_among (codes "'\"") c then quoted_from c rest else
    if is_among (codes "#()+-*/&|^~<>,=") c then sign_from c rest else run_from c (c ∷ rest) rest

abbrev pub first_piece : Bool → List ℕ → Option (Piece × List ℕ)
first_piece after_term [] = None
first_piece after_term (c ∷ rest) = if c == code ";" then None else Some (piece_from after_term c rest)

-- whether a term ends with a piece
abbrev pub ends_term : Piece → Bool
ends_term (sign c) = c == code ")"
ends_term (signs c d) = false
ends_term _ = true

-- the first pieces of a text, at most this many
abbrev pub pieces_up_to : ℕ → Bool → List ℕ → List Piece
pieces_up_to zero after_term text = []
pieces_up_to (suc n) after_term text =
    elim (first_piece after_term (after_blanks text)) [ None ↦ [] | Some found ↦ found.0 ∷ pieces_up_to n (ends_term found.0) found.1 ]

-- all pieces of a text, up to a comment; there are no more of them than bytes
unfoldable pub pieces_of : List ℕ → List Piece
pieces_of text = pieces_up_to (length text) false text
