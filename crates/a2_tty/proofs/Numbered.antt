-- The cells of a page, and pieces that are written for consecutive numbers.
use Rattle.std.proofs.Common.{◌≡◌, ℕ, suc, ◌+◌, ◌-◌, ◌*◌, ◌/◌, ◌%◌, ◌<◌, ◌≤◌, List, [], ◌++◌, ap, ◌∙◌, arith}
use Rattle.std.specs.Prelude.{slice_index}
use Rattle.std.specs.List.{flat_map}
use Rattle.a2_page.specs.Cells.{numbers_from}
use Rattle.a2_page.specs.Grid.{byte_in}
use Rattle.a2_page.specs.Picture.{page_grid}
use Rattle.a2_page.proofs.PageRows.{page_grid-byte}

pub cell_byte : (bytes : List ℕ) (row column : ℕ) → row < 24 → column < 40
    → byte_in (page_grid bytes) row column ≡ slice_index bytes (128 * (row % 8) + 40 * (row / 8) + column)
cell_byte bytes row column row_ok column_ok = page_grid-byte bytes row column row_ok column_ok

-- the rest of a text for numbers, before the next of them
counted-more : (f : ℕ → List ℕ) (first left count : ℕ) → count ≡ suc left → flat_map f (numbers_from first count) ≡ f first ++ flat_map f (numbers_from (suc first) left)
counted-more f first left count is = ap (λ n. flat_map f (numbers_from first n)) is

pub left_before : (f : ℕ → List ℕ) (end first : ℕ) → first < end
    → flat_map f (numbers_from first (end - first)) ≡ f first ++ flat_map f (numbers_from (first + 1) (end - (first + 1)))
left_before f end first l =
    let next : suc first ≡ first + 1 = omega arith in
    counted-more f first (end - (first + 1)) (end - first) (omega (arith, l))
    ∙ ap (λ n. f first ++ flat_map f (numbers_from n (end - (first + 1)))) next

-- nothing is left after the last of them
nothing-counted : (f : ℕ → List ℕ) (first count : ℕ) → count ≡ 0 → flat_map f (numbers_from first count) ≡ []
nothing-counted f first count is = ap (λ n. flat_map f (numbers_from first n)) is

pub left_nothing : (f : ℕ → List ℕ) (end first : ℕ) → end ≤ first → flat_map f (numbers_from first (end - first)) ≡ []
left_nothing f end first l = nothing-counted f first (end - first) (omega (arith, l))
