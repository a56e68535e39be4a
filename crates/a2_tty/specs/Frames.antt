-- The contents of a whole terminal with at most 64 rows of 255 columns. This project's profile.
use Rattle.std.specs.Prelude.{ℕ, ◌+◌, ◌*◌, List, replicate, slice_index_or}
use Rattle.a2_tty.specs.declared.cells.tiles.Tile.{Tile}
use Rattle.a2_tty.specs.declared.cells.tiles.Tile.TheVariants.{Letter}

abbrev pub blank : List Tile
blank = replicate 16_320 (Letter 0x20)

-- a cell, given its row and column; a row has room for 255
abbrev pub cell : List Tile → ℕ → ℕ → Tile
cell tiles row column = slice_index_or tiles (255 * row + column) (Letter 0x20)
