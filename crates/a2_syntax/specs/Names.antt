-- Names. This project's profile.
use Rattle.std.specs.Prelude.{ℕ, Bool, false, ◌&&◌, ◌||◌, not, ◌==◌, nat_le, List, [], ◌∷◌, length}
use Rattle.std.specs.List.{list_all}
use Rattle.a2_text.specs.Bytes.{is_between, is_digit, capital}
use Rattle.a2_text.specs.Signs.{sign}

-- a letter or `_`
abbrev pub begins_name : ℕ → Bool
begins_name c = is_between (sign "A") (sign "Z") c || is_between (sign "a") (sign "z") c || c == sign "_"

-- a letter, `_` or a digit
abbrev pub is_name_byte : ℕ → Bool
is_name_byte c = begins_name c || is_digit c

-- A name is a letter or `_`, then letters, digits and `_`. It has at most 32 bytes and is not just `A` or `a`.
abbrev pub is_name : List ℕ → Bool
is_name [] = false
is_name (c ∷ cs) = begins_name c && list_all is_name_byte cs && nat_le (length cs) 31 && not (length cs == 0 && capital c == sign "A")
