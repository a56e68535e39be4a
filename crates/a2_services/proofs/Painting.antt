-- Colouring blocks of page 1.
use Rattle.std.specs.Prelude.{◌≡◌, ℕ, zero, suc, ◌+◌, ◌-◌, ◌/◌, ◌≤◌, fold}
use Rattle.std.proofs.Common.{ap, ◌∙◌, arith}
use Rattle.std.proofs.lemmas.Bool.Decides.{nat_tests}
use Rattle.a2_page.specs.declared.Half.{Half}
use Rattle.a2_page.specs.Cells.{numbers_from}
use Rattle.a2_page.specs.Grid.{Grid, byte_in, with_byte}
use Rattle.a2_page.specs.Text.{block, with_block, blocks_of, plotted}
use Rattle.a2_page.proofs.Plotting.{plotted-even, plotted-odd, block-even, block-odd}
use Rattle.a2_bus.specs.Memory.{Memory, ram_byte}
use Rattle.a2_services.specs.Put.{with_page1}
use Rattle.a2_services.specs.Blocks.{half_of, painted}

-- One block

plotted_half : (row column colour : ℕ) (cells : Grid)
    → plotted row column colour cells ≡ with_byte cells (row / 2) column (with_block (byte_in cells (row / 2) column) (half_of row) colour)
plotted_half row column colour cells = grind (arith, nat_tests, plotted-even, plotted-odd)

pub block_shown : (row column : ℕ) (cells : Grid) → byte_in (blocks_of cells) row column ≡ block (byte_in cells (row / 2) column) (half_of row)
block_shown row column cells = grind (arith, nat_tests, block-even, block-odd)

-- what the code writes
pub paint_made : (m : Memory) (row column color colour old byte : ℕ) (half : Half)
    → half ≡ half_of row → color ≡ ram_byte m 0x30 → colour ≡ block color half
    → old ≡ byte_in m.page1 (row / 2) column → byte ≡ with_block old half colour
    → with_page1 (with_byte m.page1 (row / 2) column byte) m ≡ painted row column m
unfolding painted
paint_made m row column color colour old byte half is_half is_color is_colour is_old is_byte = grind (arith, plotted_half)

-- Blocks of a row or a column, one after another

-- the memory after this many steps, each with its number
abbrev pub after_steps : (ℕ → Memory → Memory) → ℕ → ℕ → Memory → Memory
after_steps step first count memory = fold (λ m number. step number m) memory (numbers_from first count)

one_more : (step : ℕ → Memory → Memory) (first count : ℕ) (m : Memory)
    → step (first + count) (after_steps step first count m) ≡ after_steps step first (suc count) m
one_more step first zero m = ap (λ number. step number m) (let e : first + 0 ≡ first = omega arith in e)
one_more step first (suc count) m =
    ap (λ number. step number (after_steps step (suc first) count (step first m))) (let e : first + suc count ≡ suc first + count = omega arith in e)
    ∙ one_more step (suc first) count (step first m)

-- the steps up to this number, which is excluded
pub record IsStepped (step : ℕ → Memory → Memory) (m n : Memory) (first number : ℕ) : Type 0 where
  pub is : n ≡ after_steps step first (number - first) m

pub stepped_more : (step : ℕ → Memory → Memory) (m n k : Memory) (first number : ℕ) → IsStepped step m n first number → first ≤ number
    → k ≡ step number n → IsStepped step m k first (number + 1)
stepped_more step m n k first number h low made = record {
  is = made ∙ ap (λ x. step number x) h.is
      ∙ ap (λ x. step x (after_steps step first (number - first) m)) (let e : number ≡ first + (number - first) = omega (arith, low) in e)
      ∙ one_more step first (number - first) m
      ∙ ap (λ count. after_steps step first count m) (let e : suc (number - first) ≡ number + 1 - first = omega (arith, low) in e);
}
