-- What a cell of the terminal shows. Apple II Reference Manual (1979), pages 12 to 18.
use Rattle.std.specs.Prelude.{ℕ, Bool, false, nat_le, ◌==◌, ◌&&◌, if◌then◌else◌}
use Rattle.a2_page.specs.declared.Switches.{Switches}
use Rattle.a2_page.specs.declared.Half.TheVariants.{Above, Below}
use Rattle.a2_page.specs.declared.Attribute.{Attribute}
use Rattle.a2_page.specs.declared.Attribute.TheVariants as shows
use Rattle.a2_page.specs.Grid.{Grid, byte_in}
use Rattle.a2_page.specs.Text.{glyph, attribute, block}
use Rattle.a2_page.specs.Picture.{first_text_row}
use Rattle.a2_tty.specs.declared.cells.tiles.Tile.{Tile}
use Rattle.a2_tty.specs.declared.cells.tiles.Tile.TheVariants.{Letter, Inverse, Blocks}

-- what is shown at one moment: the rows of the shown page, the switches, and whether flashing characters are inverse
pub record Shown : Type 0 where
  pub rows : Grid
  pub switches : Switches
  pub lit : Bool

-- a character as it is shown
abbrev pub letter : Bool → ℕ → Attribute → Tile
letter lit code shows.Inverse = Inverse code
letter lit code shows.Flashing = if lit then Inverse code else Letter code
letter lit code shows.Normal = Letter code

-- rows from the first text row down are text; hi-res is blank
abbrev pub tile : Switches → ℕ → Bool → ℕ → Tile
tile switches row lit byte =
    if nat_le (first_text_row switches) row then letter lit (glyph byte) (attribute byte)
    else if switches.hires then Letter 0x20
    else Blocks (block byte Above) (block byte Below)

-- what a cell shows
abbrev pub tile_at : Shown → ℕ → ℕ → Tile
tile_at shown row column = tile shown.switches row shown.lit (byte_in shown.rows row column)

-- whether two cells show the same
abbrev pub is_same : Tile → Tile → Bool
is_same (Letter a) (Letter b) = a == b
is_same (Inverse a) (Inverse b) = a == b
is_same (Blocks a b) (Blocks c d) = (a == c) && (b == d)
is_same one other = false
