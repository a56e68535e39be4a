-- The byte at an address, in the memory that bytes and devices represent and in the memory at the start.
use Rattle.std.specs.Prelude.{◌≡◌, ℕ, ◌<◌, List, Option, Some, None}
use Rattle.std.proofs.Common.{ap, ◌∙◌, refl}
use Rattle.a2_page.specs.declared.Page.{Page}
use Rattle.a2_page.specs.declared.Page.TheVariants.{One, Two}
use Rattle.a2_page.specs.Cells.{Cell, cell_at, address_of}
use Rattle.a2_page.specs.Grid.{byte_in}
use Rattle.a2_page.proofs.Parts.{grid_of-byte}
use Rattle.a2_page.proofs.Finding.{IsCellAtAddress, cell_at-stands}
use Rattle.a2_bus.specs.Devices.{Devices}
use Rattle.a2_bus.specs.Memory.{grid, ram_byte}
use Rattle.a2_bus.specs.View.{memory_from}
use Rattle.a2_bus.specs.PowerOn.{first_devices, loaded_byte, start_memory}
use Rattle.a2_bus.proofs.Frame.{byte_of}

-- a memory made from a function has the bytes of that function
pub ram_byte-from : (byte_at : ℕ → ℕ) (devices : Devices) (a : ℕ) → ram_byte (memory_from byte_at devices) a ≡ byte_at a
unfolding ram_byte
ram_byte-from byte_at devices a = go (cell_at a) refl
  where
    in_page : (page : Page) (r c : ℕ) → r < 24 → c < 40 → byte_in (grid (memory_from byte_at devices) page) r c ≡ byte_at (address_of page r c)
    in_page One = grid_of-byte (λ row column. byte_at (address_of One row column))
    in_page Two = grid_of-byte (λ row column. byte_at (address_of Two row column))

    go : (found : Option Cell) → cell_at a ≡ found → byte_of (memory_from byte_at devices) a found ≡ byte_at a
    go (Some cell) is =
        let stands : IsCellAtAddress a cell = cell_at-stands a cell is in
        in_page cell.page cell.row cell.column stands.row_ok stands.column_ok ∙ ap byte_at stands.address_is
    go None is = ap (λ f. elim f [ Some cell ↦ 0 | None ↦ byte_at a ]) is

-- at the start it is the byte of the image, or the first value if the image has none
pub ram_byte-start : (image : ℕ → Option ℕ) (keys : List ℕ) (a : ℕ) → ram_byte (start_memory image keys) a ≡ loaded_byte image a
unfolding start_memory
ram_byte-start image keys a = ram_byte-from (loaded_byte image) (first_devices keys) a
