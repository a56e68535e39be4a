-- The rows of the bytes of a page, and the lines for them.
use Rattle.std.specs.Prelude.{◌≡◌, ℕ, ◌+◌, ◌<◌, ◌≤◌, List, [], ◌++◌, length, slice_index, slice_index_or, slice_range, take, drop}
use Rattle.std.proofs.Common.{sym, ◌∙◌, arith}
use Rattle.std.proofs.lemmas.List.{ext_get_or, drop_more, drop_all, get_or-take, length-take}
use Rattle.std.proofs.lemmas.Simd.{map-map}
use Rattle.a2_page.specs.declared.Half.TheVariants.{Above, Below}
use Rattle.a2_page.specs.declared.Page.{Page}
use Rattle.a2_page.specs.Cells.{base_of, address_of, row_offset}
use Rattle.a2_page.specs.Grid.{Grid, IsGrid, byte_in}
use Rattle.a2_page.specs.Text.{row_line, lines_of, block_lines, block, block_digit}
use Rattle.a2_page.specs.Picture.{page_grid}
use Rattle.a2_page.specs.declared.picture.Mark.TheVariants.{Block}
use Rattle.a2_page.specs.Marks.{character}
use Rattle.a2_page.proofs.Parts.{same_cells, grid_of-byte, grid_of-is_grid, range-at, range_long}

-- the byte of a cell among the bytes of the page
abbrev byte_at : List ℕ → ℕ → ℕ → ℕ
byte_at bytes row column = slice_index bytes (row_offset row + column)

pub page_grid-is_grid : (bytes : List ℕ) → IsGrid (page_grid bytes)
unfolding page_grid
page_grid-is_grid bytes = grid_of-is_grid (byte_at bytes)

pub page_grid-byte : (bytes : List ℕ) (row column : ℕ) → row < 24 → column < 40
    → byte_in (page_grid bytes) row column ≡ slice_index bytes (row_offset row + column)
unfolding page_grid
page_grid-byte bytes row column row_ok column_ok = grid_of-byte (byte_at bytes) row column row_ok column_ok

-- a grid with these bytes in its cells is the grid of the page
pub page_grid_is : (bytes : List ℕ) (grid : Grid) → IsGrid grid
    → ((row column : ℕ) → row < 24 → column < 40 → slice_index bytes (row_offset row + column) ≡ byte_in grid row column)
    → page_grid bytes ≡ grid
page_grid_is bytes grid g same =
    same_cells (page_grid bytes) grid (page_grid-is_grid bytes) g
    (λ row column row_ok column_ok. page_grid-byte bytes row column row_ok column_ok ∙ same row column row_ok column_ok)

-- so is a grid that agrees with a memory at the addresses of the page's cells
pub page_grid-of_memory : (memory : List ℕ) (page : Page) (grid : Grid) → IsGrid grid → base_of page + 1024 ≤ length memory
    → ((row column : ℕ) → row < 24 → column < 40 → slice_index memory (address_of page row column) ≡ byte_in grid row column)
    → page_grid (slice_range memory (base_of page) (base_of page + 1024)) ≡ grid
page_grid-of_memory memory page grid g fits same =
    page_grid_is (slice_range memory (base_of page) (base_of page + 1024)) grid g
    (λ row column row_ok column_ok.
    range-at memory (base_of page) (base_of page + 1024) (row_offset row + column) (address_of page row column) 0 fits
    (omega arith) (omega arith)
    ∙ same row column row_ok column_ok)

-- the bytes of a row are contiguous
pub row_is : (bytes : List ℕ) (row start : ℕ) → row < 24 → length bytes ≡ 1024 → start ≡ row_offset row
    → slice_range bytes start (start + 40) ≡ slice_index_or (page_grid bytes) row []
row_is bytes row start row_ok size e =
    let width = (page_grid-is_grid bytes).width row row_ok in
    let long : length (slice_range bytes start (start + 40)) ≡ 40 = range_long bytes start 40 (omega arith) in
    ext_get_or 0 _ _ (long ∙ sym width) (λ i lt.
    range-at bytes start (start + 40) i (row_offset row + i) 0 (omega arith) (omega arith) (omega arith) ∙ sym (page_grid-byte bytes row i row_ok (omega arith)))

-- the line of the next row of a page, and the lines after it
pub text_rows-next : (show : ℕ → ℕ) (bytes : List ℕ) (row : ℕ) (cells : List ℕ) → row < 24 → cells ≡ slice_index_or (page_grid bytes) row []
    → lines_of show (drop row (page_grid bytes)) ≡ row_line show cells ++ lines_of show (drop (row + 1) (page_grid bytes))
text_rows-next show bytes row cells lt is = rw (drop_more (page_grid bytes) row [] (omega (arith, (page_grid-is_grid bytes).height)), is)

pub text_rows-end : (show : ℕ → ℕ) (bytes : List ℕ) (row : ℕ) → 24 ≤ row → lines_of show (drop row (page_grid bytes)) ≡ []
text_rows-end show bytes row le = rw (drop_all row (page_grid bytes) (omega (arith, (page_grid-is_grid bytes).height)))

-- the two lines of blocks of the next row above `end`, and the lines after them
pub block_rows-next : (bytes : List ℕ) (end row : ℕ) (cells : List ℕ) → end ≤ 24 → row < end → cells ≡ slice_index_or (page_grid bytes) row []
    → block_lines (drop row (take end (page_grid bytes)))
    ≡ row_line (character (Block Above)) cells
    ++ (row_line (character (Block Below)) cells ++ block_lines (drop (row + 1) (take end (page_grid bytes))))
block_rows-next bytes end row cells le lt is =
    let high : length (take end (page_grid bytes)) ≡ end = length-take end (page_grid bytes) ∙ omega (arith, (page_grid-is_grid bytes).height) in
    rw (
      drop_more (take end (page_grid bytes)) row [] (omega arith),
      get_or-take end (page_grid bytes) row [] lt,
      ← is,
      map-map block_digit (λ byte. block byte Above) cells,
      map-map block_digit (λ byte. block byte Below) cells,
    )
