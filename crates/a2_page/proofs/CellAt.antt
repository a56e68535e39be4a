-- The cell at an address, found by arithmetic.
use Rattle.std.specs.Prelude.{◌≡◌, ℕ, ◌+◌, ◌*◌, ◌/◌, ◌%◌, ◌<◌, ◌≤◌, ◌⊎◌, Option, Some, None, refl}
use Rattle.std.proofs.Common.{arith, inl, inr}
use Rattle.a2_page.specs.declared.Page.{Page}
use Rattle.a2_page.specs.declared.Page.TheVariants.{One, Two}
use Rattle.a2_page.specs.Cells.{Cell, cell_at, address_of, base_of}
use Rattle.a2_page.proofs.Finding.{finds_each_cell, cell_at-stands, IsCellAtAddress}

-- an offset from the start of a page that is among the first 120 of its 128 bytes is a cell
pub cell_found_at_offset : (page : Page) (offset : ℕ) → offset < 1024 → offset % 128 < 120
    → cell_at (base_of page + offset) ≡ Some (record { page = page; row = offset / 128 + 8 * (offset % 128 / 40); column = offset % 128 % 40 })
cell_found_at_offset page offset small shown =
    let is : base_of page + offset ≡ address_of page (offset / 128 + 8 * (offset % 128 / 40)) (offset % 128 % 40) = omega arith in
    rw is (finds_each_cell page (offset / 128 + 8 * (offset % 128 / 40)) (offset % 128 % 40) (omega arith) (omega arith))

-- no cell is found at an address that is not the address of a cell
nothing_at : (address : ℕ) → ((cell : Cell) → IsCellAtAddress address cell → ⊥) → cell_at address ≡ None
nothing_at address differs = go (cell_at address) refl
  where
    go : (found : Option Cell) → cell_at address ≡ found → cell_at address ≡ None
    go None is = is
    go (Some cell) is = absurd (differs cell (cell_at-stands address cell is))

bases : (page : Page) → (base_of page ≡ 0x400) ⊎ (base_of page ≡ 0x800)
bases One = inl refl
bases Two = inr refl

-- the last eight bytes of each 128 are in the gap between cells
pub gap_found_at_offset : (page : Page) (offset : ℕ) → offset < 1024 → 120 ≤ offset % 128 → cell_at (base_of page + offset) ≡ None
gap_found_at_offset page offset small gap = nothing_at (base_of page + offset) (λ cell stands. grind (arith, bases page, bases cell.page))

pub nothing_before : (address : ℕ) → address < 0x400 → cell_at address ≡ None
nothing_before address low = nothing_at address (λ cell stands. grind (arith, bases cell.page))

pub nothing_after : (address : ℕ) → 0xC00 ≤ address → cell_at address ≡ None
nothing_after address high = nothing_at address (λ cell stands. grind (arith, bases cell.page))
