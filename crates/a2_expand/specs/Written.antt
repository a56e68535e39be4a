-- The number that the expansion has for a value. This project's own: docs/manual/larger-language.md, "Expressions".
use Rattle.std.specs.Prelude.{◌≡◌, ℕ, ◌-◌, ◌++◌, Bool, true, false, is_none, nat_le, nat_lt, List, Option, Some, None, decimal, ℤ, pos, negsuc, if◌then◌else◌}
use Rattle.a2_expand.specs.declared.operand.Width.{Width}
use Rattle.a2_expand.specs.declared.operand.Width.TheVariants.{Byte, Word}
use Rattle.a2_expand.specs.declared.value.Constant.{Constant}
use Rattle.a2_expand.specs.Expressions.{Piece, name_piece, other, Says, value_of_name}

-- a number of two bytes; a negative one is written in two's complement, as a byte or as a word
abbrev pub number_for : Width → ℤ → Option ℕ
number_for width (pos n) = if nat_le n 65535 then Some n else None
number_for Byte (negsuc n) = if nat_lt n 128 then Some (255 - n) else None
number_for Word (negsuc n) = if nat_lt n 32768 then Some (65535 - n) else None

-- the text after is the text before and the number of the value, in decimal
abbrev pub Writes : {A : Type 0} → List (Constant A) → List Piece → Width → List ℕ → List ℕ → Type 0
Writes constants all width before after = (z : ℤ) × (n : ℕ) × Says constants all z × (number_for width z ≡ Some n) × (after ≡ before ++ decimal n)

-- whether a piece may be an address: a name without a value, or what has no value
abbrev pub is_unknown : {A : Type 0} → List (Constant A) → Piece → Bool
is_unknown constants (name_piece word) = is_none (value_of_name constants word)
is_unknown constants other = true
is_unknown constants _ = false
