-- The values that options take. This project's profile.
use Rattle.std.specs.Prelude.{◌≤◌, ◌&&◌, ℕ, Bool, List, length, nat_lt, nat_le, Option, Some, None, if◌then◌else◌}
use Rattle.std.specs.List.{list_all, list_any}
use Rattle.std.specs.Str.{bytes_eq}
use Rattle.std.specs.Str.Parse.{IsNumeral, digits_value}
use Rattle.std.specs.Char.{digit_value}
use Rattle.a2_arguments.specs.declared.command.Value.{Value}
use Rattle.a2_arguments.specs.declared.command.Value.TheVariants.{Flag, Text, Number, OneOf}

-- one decimal digit or more, for a number in a range
abbrev pub IsNumber : ℕ → ℕ → List ℕ → Type 0
IsNumber least most text = IsNumeral 10 text × (least ≤ digits_value 10 text) × (digits_value 10 text ≤ most)

-- the same, as a test
abbrev pub is_number : ℕ → ℕ → List ℕ → Bool
is_number least most text =
    nat_lt 0 (length text) && list_all (λ c. nat_lt (digit_value c) 10) text && nat_le least (digits_value 10 text) && nat_le (digits_value 10 text) most

abbrev pub number_in : ℕ → ℕ → List ℕ → Option ℕ
number_in least most text = if is_number least most text then Some (digits_value 10 text) else None

-- the value of an option, if it takes this text: its number, where it is one
abbrev pub takes_value : Value → List ℕ → Option (Option ℕ)
takes_value Flag text = None
takes_value Text text = Some None
takes_value (Number least most) text = if is_number least most text then Some (Some (digits_value 10 text)) else None
takes_value (OneOf texts) text = if list_any (λ one. bytes_eq one.now text) texts.now then Some None else None
