-- Lo-res blocks of page 1: 48 rows of 40. Apple II Reference Manual (1979), chapter 1, on low-resolution graphics, and chapter
-- 3; the exact effects are this project's profile.
use Rattle.std.specs.Prelude.{ℕ, ◌+◌, ◌-◌, ◌%◌, List, ◌==◌, fold, replicate, if◌then◌else◌}
use Rattle.a2_page.specs.declared.Half.{Half}
use Rattle.a2_page.specs.declared.Half.TheVariants.{Above, Below}
use Rattle.a2_page.specs.Cells.{numbers_from}
use Rattle.a2_page.specs.Grid.{Grid}
use Rattle.a2_page.specs.Text.{block, cells_of, plotted}
use Rattle.a2_bus.specs.Locations as at
use Rattle.a2_bus.specs.Memory.{Memory, ram_byte}
use Rattle.a2_services.specs.Put.{with_page1}

-- the half of a screen cell that holds the blocks of a row
abbrev pub half_of : ℕ → Half
half_of row = if row % 2 == 0 then Above else Below

-- the colour of the blocks of a row: the low four bits of COLOR in the upper half of a cell, the high four bits in the lower
-- half
abbrev pub colour_of : ℕ → Memory → ℕ
colour_of row memory = block (ram_byte memory at.color) (half_of row)

-- the memory after one block is coloured
unfoldable pub painted : ℕ → ℕ → Memory → Memory
painted row column memory = with_page1 (plotted row column (colour_of row memory) memory.page1) memory

-- the memory after several blocks of a row, or of a column, are coloured
abbrev pub painted_across : ℕ → List ℕ → Memory → Memory
painted_across row columns memory = fold (λ memory column. painted row column memory) memory columns

abbrev pub painted_down : List ℕ → ℕ → Memory → Memory
painted_down rows column memory = fold (λ memory row. painted row column memory) memory rows

-- the numbers from the first to the last, or only the first if the last is not greater
abbrev pub numbers_from_to : ℕ → ℕ → List ℕ
numbers_from_to first last = numbers_from first (last - first + 1)

-- page 1 with every block black
abbrev pub black : Grid
black = cells_of (replicate 48 (replicate 40 0))
