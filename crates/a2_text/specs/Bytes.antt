-- Classes of bytes, and the values of digits.
use Rattle.std.specs.Prelude.{ℕ, ◌+◌, ◌-◌, ◌*◌, Bool, ◌&&◌, ◌||◌, ◌==◌, nat_le, nat_lt, List, length, fold, Option, Some, None, if◌then◌else◌}
use Rattle.std.specs.List.{list_all, list_any}

-- whether a number is in a list
abbrev pub is_among : List ℕ → ℕ → Bool
is_among ns n = list_any (λ m. m == n) ns

abbrev pub is_between : ℕ → ℕ → ℕ → Bool
is_between low high c = nat_le low c && nat_le c high

-- a space or a tab
abbrev pub is_blank : ℕ → Bool
is_blank c = c == 32 || c == 9

abbrev pub is_digit : ℕ → Bool
is_digit c = is_between 48 57 c

-- the capital of a small letter; any other byte is unchanged
abbrev pub capital : ℕ → ℕ
capital c = if is_between 97 122 c then c - 32 else c

-- a digit, or one of the letters A to F in either case
abbrev pub is_hex_digit : ℕ → Bool
is_hex_digit c = is_digit c || is_between 65 70 (capital c)

-- the value of a digit
abbrev pub digit : ℕ → ℕ
digit c = if is_digit c then c - 48 else capital c - 55

-- the value of digits in a base, the highest digit first
abbrev pub value_of_digits : ℕ → List ℕ → ℕ
value_of_digits base digits = fold (λ n c. n * base + digit c) 0 digits

-- whether a byte is a digit of the base
abbrev pub is_digit_in : ℕ → ℕ → Bool
is_digit_in base c = is_hex_digit c && nat_lt (digit c) base

-- the value of at least one and at most `most` digits, if it fits in two bytes
abbrev pub number_in : ℕ → ℕ → List ℕ → Option ℕ
number_in base most digits =
    if nat_lt 0 (length digits) && nat_le (length digits) most && list_all (is_digit_in base) digits && nat_lt (value_of_digits base digits) 65536
    then Some (value_of_digits base digits) else None
