-- Where two lists of rows differ.
use Rattle.std.specs.Prelude.{◌≡◌, ◌==◌, ℕ, List, [], ◌∷◌, ◌++◌, take, codes, if◌then◌else◌}
use Rattle.std.specs.List.{AllByRecursion}
use Rattle.a2_opcode.specs.Listing.{listing}
use Rattle.a2_diff.specs.declared.rows.Row.{Row}
use Rattle.a2_diff.specs.declared.comparison.Change.{Change}
use Rattle.a2_diff.specs.declared.comparison.Change.TheVariants.{Same, Removed, Added}

-- the rows of the first list that a change is about, and those of the second list
abbrev pub first_of : Change → List Row
first_of (Same row other) = row ∷ []
first_of (Removed row) = row ∷ []
first_of (Added other) = []

abbrev pub second_of : Change → List Row
second_of (Same row other) = other ∷ []
second_of (Removed row) = []
second_of (Added other) = other ∷ []

abbrev pub firsts : List Change → List Row
firsts [] = []
firsts (change ∷ changes) = first_of change ++ firsts changes

abbrev pub seconds : List Change → List Row
seconds [] = []
seconds (change ∷ changes) = second_of change ++ seconds changes

-- two rows that are the same have the same bytes, although their addresses may differ
abbrev pub IsAlike : Row → Row → Type 0
IsAlike row other = (row.length ≡ other.length) × (row.bytes ≡ other.bytes)

abbrev pub IsTrue_of : Change → Type 0
IsTrue_of (Same row other) = IsAlike row other
IsTrue_of (Removed row) = Unit {0}
IsTrue_of (Added other) = Unit {0}

-- Changes compare two lists: without the added rows they are the first list, without the removed rows the second one, each row
-- once and in order, and the rows that both have hold the same bytes.
pub record Compares (rows others : List Row) (changes : List Change) : Type 0 where
  pub first : firsts changes ≡ rows
  pub second : seconds changes ≡ others
  pub alike : AllByRecursion IsTrue_of changes

-- the bytes of a row, which has one, two or three
abbrev pub row_bytes : Row → List ℕ
row_bytes row = if row.length == 1 then take 1 row.bytes else if row.length == 2 then take 2 row.bytes else row.bytes

-- the line of a row, after a sign
abbrev pub line_of : List ℕ → Row → List ℕ
line_of sign row = sign ++ listing (row_bytes row) row.address ++ 10 ∷ []

-- the line of a change: rows that both have are not shown
abbrev pub shown : Change → List ℕ
shown (Same row other) = []
shown (Removed row) = line_of (codes "- ") row
shown (Added other) = line_of (codes "+ ") other
