-- The values of hexadecimal digits, for the contracts of the functions that read them.
use Rattle.std.specs.Prelude.{ℕ, ◌==◌, Bool, true, List, [], ◌∷◌, unwrap_or}
use Rattle.hex.specs.Hex.{hex_digit_value}

-- the value of a digit of either case, or 16 for any other byte
abbrev pub digit_value : ℕ → ℕ
digit_value c = unwrap_or (hex_digit_value c) 16

-- whether nothing or a space is at the front of a text
abbrev pub ends_word : List ℕ → Bool
ends_word [] = true
ends_word (c ∷ following) = c == 32
