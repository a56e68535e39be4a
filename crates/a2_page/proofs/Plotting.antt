-- Setting the colour of one block writes half of one byte.
use Rattle.std.specs.Prelude.{◌≡◌, ℕ, zero, suc, ◌+◌, ◌*◌, ◌/◌, ◌%◌, List, [], ◌∷◌, map, slice_index, slice_set, refl}
use Rattle.std.proofs.Common.{ap, ◌∙◌, arith}
use Rattle.a2_page.specs.declared.Half.{Half}
use Rattle.a2_page.specs.declared.Half.TheVariants.{Above, Below}
use Rattle.a2_page.specs.Grid.{Grid, byte_in, with_byte}
use Rattle.a2_page.specs.Text.{block, with_block, blocks_of, cells_of, joined, plotted}

-- the number of the row of blocks that is one half of a row of cells
abbrev half_of : ℕ → Half → ℕ
half_of zero Above = 0
half_of zero Below = 1
half_of (suc row) half = suc (suc (half_of row half))

half_is : (row : ℕ) (half : Half) → half_of row half ≡ 2 * row + half_of 0 half
half_is zero half = omega arith
half_is (suc row) half = omega (arith, half_is row half)

-- One row

abbrev blocks : Half → List ℕ → List ℕ
blocks half row = map (λ byte. block byte half) row

both : (byte : ℕ) → block byte Above + 16 * block byte Below ≡ byte
both byte = omega arith

row_again : (row : List ℕ) → joined (blocks Above row) (blocks Below row) ≡ row
row_again [] = refl
row_again (byte ∷ row) = λ i. both byte i ∷ row_again row i

above_set : (row : List ℕ) (column colour : ℕ)
    → joined (slice_set (blocks Above row) column colour) (blocks Below row) ≡ slice_set row column (with_block (slice_index row column) Above colour)
above_set [] column colour = refl
above_set (byte ∷ row) zero colour = ap (λ rest. with_block byte Above colour ∷ rest) (row_again row)
above_set (byte ∷ row) (suc column) colour = λ i. both byte i ∷ above_set row column colour i

below_set : (row : List ℕ) (column colour : ℕ)
    → joined (blocks Above row) (slice_set (blocks Below row) column colour) ≡ slice_set row column (with_block (slice_index row column) Below colour)
below_set [] column colour = refl
below_set (byte ∷ row) zero colour = ap (λ rest. with_block byte Below colour ∷ rest) (row_again row)
below_set (byte ∷ row) (suc column) colour = λ i. both byte i ∷ below_set row column colour i

block_at : (half : Half) (row : List ℕ) (column : ℕ) → slice_index (blocks half row) column ≡ block (slice_index row column) half
block_at Above [] column = refl
block_at Below [] column = refl
block_at half (byte ∷ row) zero = refl
block_at half (byte ∷ row) (suc column) = block_at half row column

-- All rows: two rows of blocks for each row of cells

cells_again : (cells : Grid) → cells_of (blocks_of cells) ≡ cells
cells_again [] = refl
cells_again (row ∷ cells) = λ i. row_again row i ∷ cells_again cells i

half_plotted : (row : ℕ) (half : Half) (column colour : ℕ) (cells : Grid)
    → plotted (half_of row half) column colour cells ≡ with_byte cells row column (with_block (byte_in cells row column) half colour)
half_plotted row half column colour [] = refl
half_plotted zero Above column colour (cell ∷ cells) = λ i. above_set cell column colour i ∷ cells_again cells i
half_plotted zero Below column colour (cell ∷ cells) = λ i. below_set cell column colour i ∷ cells_again cells i
half_plotted (suc row) half column colour (cell ∷ cells) = λ i. row_again cell i ∷ half_plotted row half column colour cells i

half_shown : (row : ℕ) (half : Half) (column : ℕ) (cells : Grid) → byte_in (blocks_of cells) (half_of row half) column ≡ block (byte_in cells row column) half
half_shown row Above column [] = refl
half_shown row Below column [] = refl
half_shown zero Above column (cell ∷ cells) = block_at Above cell column
half_shown zero Below column (cell ∷ cells) = block_at Below cell column
half_shown (suc row) half column (cell ∷ cells) = half_shown row half column cells

-- A row of blocks is the upper half of its row of cells if its number is even, and otherwise the lower half

even_row : (row : ℕ) → row % 2 ≡ 0 → row ≡ half_of (row / 2) Above
even_row row even = omega (arith, even, half_is (row / 2) Above)

odd_row : (row : ℕ) → row % 2 ≡ 1 → row ≡ half_of (row / 2) Below
odd_row row odd = omega (arith, odd, half_is (row / 2) Below)

pub plotted-even : (row column colour : ℕ) (cells : Grid) → row % 2 ≡ 0
    → plotted row column colour cells ≡ with_byte cells (row / 2) column (with_block (byte_in cells (row / 2) column) Above colour)
plotted-even row column colour cells even = ap (λ r. plotted r column colour cells) (even_row row even) ∙ half_plotted (row / 2) Above column colour cells

pub plotted-odd : (row column colour : ℕ) (cells : Grid) → row % 2 ≡ 1
    → plotted row column colour cells ≡ with_byte cells (row / 2) column (with_block (byte_in cells (row / 2) column) Below colour)
plotted-odd row column colour cells odd = ap (λ r. plotted r column colour cells) (odd_row row odd) ∙ half_plotted (row / 2) Below column colour cells

pub block-even : (row column : ℕ) (cells : Grid) → row % 2 ≡ 0 → byte_in (blocks_of cells) row column ≡ block (byte_in cells (row / 2) column) Above
block-even row column cells even = ap (λ r. byte_in (blocks_of cells) r column) (even_row row even) ∙ half_shown (row / 2) Above column cells

pub block-odd : (row column : ℕ) (cells : Grid) → row % 2 ≡ 1 → byte_in (blocks_of cells) row column ≡ block (byte_in cells (row / 2) column) Below
block-odd row column cells odd = ap (λ r. byte_in (blocks_of cells) r column) (odd_row row odd) ∙ half_shown (row / 2) Below column cells
