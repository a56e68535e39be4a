-- Whether the rows of a screen are those that the lines of a WANT file require. This project's profile.
use Rattle.std.specs.Prelude.{ℕ, Bool, true, false, not, if◌then◌else◌, ◌==◌, ◌&&◌, ◌||◌, List, [], ◌∷◌, Option, Some, None, nat_eq, nat_lt, slice_get, length, take, drop, ◌+◌, ◌-◌}
use Rattle.std.specs.List.{list_all, list_any, starts_with}
use Rattle.a2_page.specs.declared.Attribute.{Attribute}
use Rattle.a2_page.specs.declared.Attribute.TheVariants.{Normal}
use Rattle.a2_page.specs.Text.{mark_of}
use Rattle.a2_text.specs.Bytes.{is_blank}
use Rattle.a2_tests.specs.declared.line.NumberedLine.{NumberedLine}
use Rattle.a2_tests.specs.declared.line.Line.{Line}
use Rattle.a2_tests.specs.declared.line.Line.TheVariants.{Row}
use Rattle.a2_tests.specs.declared.rows.RowKind.{RowKind}
use Rattle.a2_tests.specs.declared.rows.RowKind.TheVariants as kind

-- two rows are the same except for blanks at their ends
abbrev pub is_same : List ℕ → List ℕ → Bool
is_same [] shown = list_all is_blank shown
is_same (c ∷ wanted) [] = list_all is_blank (c ∷ wanted)
is_same (c ∷ wanted) (d ∷ shown) = if c == d then is_same wanted shown else list_all is_blank (c ∷ wanted) && list_all is_blank (d ∷ shown)

-- a row that may be anything
abbrev pub is_any : List ℕ → Bool
is_any (c ∷ []) = c == 0x7E
is_any _ = false

abbrev pub row_fits : List ℕ → List ℕ → Bool
row_fits wanted shown = is_any wanted || is_same wanted shown

-- all marks are of this attribute
abbrev pub are_all : Attribute → List ℕ → Bool
are_all attribute marks = list_all (λ mark. mark == mark_of attribute) marks

-- the first marks of a row are the expected ones, and the others are normal
abbrev pub marks_fit : List ℕ → List ℕ → Bool
marks_fit wanted shown = is_any wanted || (starts_with nat_eq shown wanted && are_all Normal (drop (length wanted) shown))

-- a row of characters, or of the marks of their attributes, is the expected one
abbrev pub fits : RowKind → List ℕ → List ℕ → Bool
fits kind.Characters wanted shown = row_fits wanted shown
fits kind.Attributes wanted shown = marks_fit wanted shown

-- the row that some lines begin with, blank if they do not begin with one, and the lines after it
abbrev pub row_of : Line → List ℕ
row_of (Row text) = text.now
row_of _ = []

abbrev pub is_row : Line → Bool
is_row (Row text) = true
is_row _ = false

abbrev pub first_row : List NumberedLine → List ℕ
first_row [] = []
first_row (asked ∷ rest) = row_of asked.line

abbrev pub begins_with_row : List NumberedLine → Bool
begins_with_row [] = false
begins_with_row (asked ∷ rest) = is_row asked.line

abbrev pub after_row : List NumberedLine → List NumberedLine
after_row [] = []
after_row (asked ∷ rest) = if is_row asked.line then rest else asked ∷ rest

-- 1 if the lines begin with a row, otherwise 0
abbrev pub row_count : List NumberedLine → ℕ
row_count lines = if begins_with_row lines then 1 else 0

-- the rows of a screen, from the top, are those of these lines, and the remaining rows are blank, or normal; no more rows are
-- required
abbrev pub rows_fit : RowKind → List NumberedLine → List (List ℕ) → Bool
rows_fit kind wanted [] = not (begins_with_row wanted)
rows_fit kind wanted (row ∷ rows) = fits kind (first_row wanted) row && rows_fit kind (after_row wanted) rows

-- the row with this number, from 0 at the top, is the expected one
abbrev pub row_is : ℕ → List ℕ → List (List ℕ) → Bool
row_is number wanted rows = elim (slice_get rows number) [ None ↦ false | Some row ↦ row_fits wanted row ]

-- a text contains a part
abbrev pub has : List ℕ → List ℕ → Bool
has part [] = starts_with nat_eq [] part
has part (c ∷ text) = starts_with nat_eq (c ∷ text) part || has part text

-- a row contains the part
abbrev pub holds : List ℕ → List (List ℕ) → Bool
holds part rows = list_any (has part) rows

-- Attributes: rows of them are as `a2 run --attr` prints them, with a mark for each character. There are none for the rows of blocks
-- that come first in a graphics mode.

-- a text with these marks contains a part whose characters are shown like this
abbrev pub has_styled : Attribute → List ℕ → List ℕ → List ℕ → Bool
has_styled attribute part marks [] = starts_with nat_eq [] part
has_styled attribute part marks (c ∷ text) =
    (starts_with nat_eq (c ∷ text) part && are_all attribute (take (length part) marks)) || has_styled attribute part (drop 1 marks) text

-- the marks of the row with a number: the last rows have marks
abbrev pub marks_at : ℕ → List (List ℕ) → List (List ℕ) → Option (List ℕ)
marks_at number rows marks =
    if nat_lt (number + length marks) (length rows) then None else slice_get marks (number + length marks - length rows)

abbrev pub row_has_styled : ℕ → Attribute → List ℕ → List (List ℕ) → List (List ℕ) → Bool
row_has_styled number attribute part rows marks =
    elim (marks_at number rows marks) [
      | None ↦ false
      | Some shown ↦ elim (slice_get rows number) [ None ↦ false | Some row ↦ has_styled attribute part shown row ]
    ]
