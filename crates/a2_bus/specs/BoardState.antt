-- What contracts see of a board: its bus, and the copy that it keeps of the screen. This project's profile.
use Rattle.std.specs.Prelude.{ℕ, Bool, if◌then◌else◌}
use Rattle.a2_text.specs.Bytes.{is_between}
use Rattle.a2_page.specs.Grid.{Grid}
use Rattle.a2_page.specs.Kept.{KeptPicture, IsStale, with_row_marked, after_switch}
use Rattle.a2_page.specs.Picture.{shown_page}
use Rattle.a2_bus.specs.BusState.{BusState}
use Rattle.a2_bus.specs.Locations as at
use Rattle.a2_bus.specs.View.{memory_of}

pub record BoardState : Type 0 where
  pub bus : BusState
  pub picture : KeptPicture

-- the page that the screen of a bus shows
abbrev pub page_shown : BusState → Grid
page_shown bus = let memory = memory_of bus in shown_page memory.devices.switches memory.page1 memory.page2

-- a row may have changed since it was last printed: it has a mark, or the kept row differs from that of the shown page
abbrev pub IsMarked : BusState → KeptPicture → ℕ → Type 0
IsMarked bus picture row = IsStale picture (page_shown bus) row

-- the address is that of a display switch; the switches have consecutive addresses
abbrev pub is_switch : ℕ → Bool
is_switch address = is_between at.txtclr at.hires address

-- the picture after a read or a write of an address
abbrev pub picture_after_read : ℕ → KeptPicture → KeptPicture
picture_after_read address picture = if is_switch address then after_switch picture else picture

abbrev pub picture_after_write : ℕ → KeptPicture → KeptPicture
picture_after_write address picture = if is_switch address then after_switch picture else with_row_marked address picture
