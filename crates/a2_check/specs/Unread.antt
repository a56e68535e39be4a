-- The lines of a text that are not in the grammar. This project's profile.
use Rattle.std.specs.Prelude.{ℕ, ◌-◌, ◌<◌, ◌≤◌, ◌⊎◌, List, [], length, get_or, Contains}
use Rattle.std.specs.List.{All}
use Rattle.std.specs.List.Sorted.{IsStrictlyIncreasing}
use Rattle.a2_syntax.specs.Bare.{BareLine}
use Rattle.a2_syntax.specs.Grammar.{IsLine}

-- the number of a line; lines count from 1
abbrev pub IsNumber : List (List ℕ) → ℕ → Type 0
IsNumber texts n = (0 < n) × (n ≤ length texts)

-- the line with this number is in the grammar
abbrev pub IsRead : List (List ℕ) → ℕ → Type 0
IsRead texts n = (line : BareLine) × IsLine (get_or texts (n - 1) []) line

-- the line with this number is not in the grammar
abbrev pub IsUnread : List (List ℕ) → ℕ → Type 0
IsUnread texts n = IsNumber texts n × (IsRead texts n → ⊥)

-- the numbers of all lines that are not in the grammar, in order
pub record AreUnread (texts : List (List ℕ)) (numbers : List ℕ) : Type 0 where
  pub in_order : IsStrictlyIncreasing numbers
  pub unread : All (IsUnread texts) numbers
  pub others : (n : ℕ) → IsNumber texts n → Contains numbers n ⊎ IsRead texts n
