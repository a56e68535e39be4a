-- Words that set the byte of a place, such as A=E9 or A=#233. This project's profile.
use Rattle.std.specs.Prelude.{ℕ, ◌+◌, ◌==◌, ◌&&◌, ◌||◌, Bool, false, not, nat_lt, List, [], ◌∷◌, take, drop, codes, Option, None, Some, if◌then◌else◌}
use Rattle.std.specs.List.{prefix_len}
use Rattle.a2_text.specs.Bytes.{is_blank, number_in}
use Rattle.a2_text.specs.Words.{after_blanks}

-- the number that digits mean in a base, if it is below 256
abbrev pub if_small : Option ℕ → Option ℕ
if_small None = None
if_small (Some n) = if nat_lt n 256 then Some n else None

abbrev pub small_number : ℕ → ℕ → List ℕ → Option ℕ
small_number base most digits = if_small (number_in base most digits)

-- the byte that an operand without its # means
abbrev pub operand_byte : List ℕ → Option ℕ
operand_byte [] = small_number 10 3 []
operand_byte (c ∷ digits) =
    if c == 0x24 then small_number 16 2 digits
    else if c == 0x25 then small_number 2 8 digits
    else small_number 10 3 (c ∷ digits)

-- the byte that a word means: one or two hexadecimal digits, or a number as an operand has it
abbrev pub byte_of : List ℕ → Option ℕ
byte_of [] = small_number 16 2 []
byte_of (c ∷ rest) =
    if c == 0x23 then operand_byte rest
    else if c == 0x24 then operand_byte (c ∷ rest)
    else if c == 0x25 then operand_byte (c ∷ rest)
    else small_number 16 2 (c ∷ rest)

-- what is missing before such a word, if it is to be an operand
abbrev pub operand_mark : List ℕ → List ℕ
operand_mark [] = codes "#$"
operand_mark (c ∷ rest) =
    if c == 0x23 then []
    else if c == 0x24 then codes "#"
    else if c == 0x25 then codes "#"
    else codes "#$"

-- the length of the part before the first =, and the parts before and after it
abbrev pub name_length : List ℕ → ℕ
name_length word = prefix_len (λ c. not (c == 0x3D)) word

abbrev pub name_in : List ℕ → List ℕ
name_in word = take (name_length word) word

abbrev pub digits_in : List ℕ → List ℕ
digits_in word = drop (name_length word + 1) word

-- whether a text has = after its blanks
abbrev pub is_equals : List ℕ → Bool
is_equals [] = false
is_equals (c ∷ rest) = c == 0x3D

abbrev pub leads_to_equals : List ℕ → Bool
leads_to_equals text = is_equals (after_blanks text)

-- a text without the blanks around each =; whether it comes after an =
abbrev pub tight_from : Bool → List ℕ → List ℕ
tight_from is_after [] = []
tight_from is_after (c ∷ rest) =
    if is_blank c && (is_after || leads_to_equals rest) then tight_from is_after rest else c ∷ tight_from (c == 0x3D) rest

abbrev pub tight : List ℕ → List ℕ
tight text = tight_from false text
