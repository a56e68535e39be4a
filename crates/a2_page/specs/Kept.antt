-- A copy of the screen that is kept: the rows of cells when they were last copied, and a mark for each row that may
-- have changed since. This project's profile.
use Rattle.std.specs.Prelude.{◌≡◌, ◌≢◌, ◌⊎◌, ℕ, ◌<◌, Bool, true, false, List, [], ◌↔◌, length, filter, slice_index_or, slice_set, replicate, Some, None}
use Rattle.a2_page.specs.Cells.{cell_at}
use Rattle.a2_page.specs.Grid.{Grid}

pub record KeptPicture : Type 0 where
  pub rows : Grid
  pub marks : List Bool

abbrev pub is_row_marked : KeptPicture → ℕ → Bool
is_row_marked kept row = slice_index_or kept.marks row false

-- each row without a mark is equal to that row of the page
abbrev pub FitsPage : KeptPicture → Grid → Type 0
FitsPage kept page =
    (row : ℕ) → row < 24 → is_row_marked kept row ≡ false → slice_index_or kept.rows row [] ≡ slice_index_or page row []

-- a row has a mark, or differs from that row of the page
abbrev pub IsStale : KeptPicture → Grid → ℕ → Type 0
IsStale kept page row = (is_row_marked kept row ≡ true) ⊎ (slice_index_or kept.rows row [] ≢ slice_index_or page row [])

-- the rows are unchanged, and exactly the rows that were stale are marked
pub record IsCompared (page : Grid) (old new : KeptPicture) : Type 0 where
  pub rows : new.rows ≡ old.rows
  pub marked : (row : ℕ) → row < 24 → (is_row_marked new row ≡ true) ↔ IsStale old page row

-- the picture with a mark at the row of the cell at this address, on either page, if there is a cell
abbrev pub with_row_marked : ℕ → KeptPicture → KeptPicture
with_row_marked address kept =
    elim (cell_at address) [ None ↦ kept | Some cell ↦ record kept { marks = slice_set kept.marks cell.row true } ]

-- the picture with a mark at every row
abbrev pub after_switch : KeptPicture → KeptPicture
after_switch kept = record kept { marks = replicate 24 true }

-- all rows of the page, and no marks
abbrev pub after_refresh : Grid → KeptPicture
after_refresh page = record { rows = page; marks = replicate 24 false }

-- how many rows have a mark
abbrev pub marked_rows : KeptPicture → ℕ
marked_rows kept = length (filter (λ mark. mark) kept.marks)
