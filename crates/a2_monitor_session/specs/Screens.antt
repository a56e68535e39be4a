-- The contents of a machine's screen.
use Rattle.std.specs.Prelude.{◌≡◌, ℕ, ◌<◌, Bool, List, [], slice_index_or, if◌then◌else◌}
use Rattle.a2_page.specs.Grid.{Grid}
use Rattle.a2_page.specs.Picture.{shown_page, picture}
use Rattle.a2_page.specs.declared.Switches.{Switches}
use Rattle.a2_services.specs.World.{World}

-- the rows of cells that are shown, and the switches
pub record Screen : Type 0 where
  pub rows : Grid
  pub switches : Switches

abbrev pub screen_of : World → Screen
screen_of world =
    let memory = world.memory in let switches = memory.devices.switches in
    record { rows = shown_page switches memory.page1 memory.page2; switches = switches }

-- the same switches and the same 24 rows
abbrev pub IsSameScreen : Screen → Screen → Type 0
IsSameScreen old new =
    (old.switches ≡ new.switches) × ((row : ℕ) → row < 24 → slice_index_or old.rows row [] ≡ slice_index_or new.rows row [])

-- the lines that show the screen
abbrev pub screen_lines : World → List ℕ
screen_lines world = let memory = world.memory in picture memory.devices.switches memory.page1 memory.page2

abbrev pub screen_where : Bool → World → List ℕ
screen_where is_asked world = if is_asked then screen_lines world else []
