-- Bytes outside page 1 and the base address are unchanged if only these are written.
use Rattle.std.specs.Prelude.{◌≡◌, ◌≢◌, ◌⊎◌, ℕ, ◌+◌, ◌-◌, ◌/◌, ◌%◌, ◌<◌, ◌≤◌, ◌==◌, false, replicate}
use Rattle.std.proofs.Common.{◌∙◌, arith}
use Rattle.std.proofs.lemmas.Bool.Decides.{nat_tests}
use Rattle.a2_page.specs.declared.Page.TheVariants.{One}
use Rattle.a2_page.specs.Cells.{row_start}
use Rattle.a2_page.specs.Grid.{with_row_part, blank}
use Rattle.a2_bus.specs.Memory.{Memory, ram_byte, with_ram}
use Rattle.a2_bus.proofs.Frame.{ram_byte-with_ram, ram_byte-page1}
use Rattle.a2_services.specs.Put.{window_of, cursor_row, cursor_column, screen_column, with_base_address}
use Rattle.a2_services.specs.Services.{page_reach, base_reach, cleared_to_end}

-- an address outside page 1
abbrev pub IsOffPage : ℕ → Type 0
IsOffPage b = (b < 0x400) ⊎ (0x800 ≤ b)

-- an address that is neither BASL nor BASH
pub record IsOffBase (b : ℕ) : Type 0 where
  pub low : b ≢ 0x28
  pub high : b ≢ 0x29

pub off_page : (b : ℕ) → page_reach b ≡ false → IsOffPage b
off_page b h = grind (arith, nat_tests, h)

pub off_base : (b : ℕ) → base_reach b ≡ false → IsOffBase b
off_base b h = record { low = grind (arith, nat_tests, h); high = grind (arith, nat_tests, h) }

pub other_than : (b a : ℕ) → (b == a) ≡ false → b ≢ a
other_than b a h = grind (arith, nat_tests, h)

pub off_base-kept : (b : ℕ) → IsOffBase b → (m : Memory) → ram_byte (with_base_address m) b ≡ ram_byte m b
unfolding with_base_address
off_base-kept b off m =
    let base = row_start One (cursor_row m) + (window_of m).left in
    ram_byte-with_ram (with_ram m 0x28 (base % 256)) 0x29 (base / 256) b off.high
    ∙ ram_byte-with_ram m 0x28 (base % 256) b off.low

pub off_page-cleared : (b : ℕ) → IsOffPage b → (m : Memory) → ram_byte (cleared_to_end m) b ≡ ram_byte m b
unfolding cleared_to_end
off_page-cleared b off m =
    ram_byte-page1 m (with_row_part m.page1 (cursor_row m) (screen_column m) (replicate ((window_of m).width - cursor_column m) blank)) b off
