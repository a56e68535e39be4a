-- The bytes that are written for the cells that changed, on an ANSI terminal. This project's profile.
use Rattle.std.specs.Prelude.{ℕ, ◌+◌, ◌==◌, Bool, true, false, List, [], ◌∷◌, ◌++◌, codes, slice_index_or, if◌then◌else◌, Option, Some, None}
use Rattle.std.specs.List.{flat_map}
use Rattle.std.specs.Fmt.{decimal}
use Rattle.a2_page.specs.Cells.{numbers_from}
use Rattle.a2_tty.specs.declared.cells.tiles.Tile.{Tile}
use Rattle.a2_tty.specs.declared.cells.tiles.Tile.TheVariants.{Letter, Inverse, Blocks}
use Rattle.a2_tty.specs.declared.cells.colours.Colours.{Colours}
use Rattle.a2_tty.specs.declared.cells.colours.Colours.TheVariants as have
use Rattle.a2_tty.specs.Tiles.{is_same}

-- the start of a control sequence
abbrev pub escape : List ℕ
escape = 0x1B ∷ codes "["

-- ▀ in UTF-8, the upper half of a cell
abbrev pub upper : List ℕ
upper = 0xE2 ∷ 0x96 ∷ 0x80 ∷ []

-- moves the cursor to a cell: a terminal counts rows and columns from 1
unfoldable pub place_text : List ℕ → List ℕ → List ℕ
place_text row column = escape ++ (row ++ (codes ";" ++ (column ++ codes "H")))

-- the sixteen colours by their red, green and blue values, and by the nearest colour in the palette of 256
abbrev pub rgb_values : List (List ℕ)
rgb_values =
    codes "0;0;0" ∷ codes "221;0;51" ∷ codes "0;0;153" ∷ codes "221;34;221" ∷ codes "0;119;34" ∷ codes "85;85;85" ∷ codes "34;34;255"
    ∷ codes "102;170;255" ∷ codes "136;85;0" ∷ codes "255;102;0" ∷ codes "170;170;170" ∷ codes "255;153;136" ∷ codes "17;221;0"
    ∷ codes "255;255;0" ∷ codes "68;255;153" ∷ codes "255;255;255" ∷ []

abbrev pub nearest : List (List ℕ)
nearest =
    codes "16" ∷ codes "161" ∷ codes "18" ∷ codes "170" ∷ codes "29" ∷ codes "240" ∷ codes "27" ∷ codes "75" ∷ codes "94" ∷ codes "202"
    ∷ codes "248" ∷ codes "216" ∷ codes "40" ∷ codes "226" ∷ codes "85" ∷ codes "231" ∷ []

-- the upper half of a cell in one colour, and the lower half in another
abbrev pub halves_text : List ℕ → List ℕ → List ℕ → List ℕ
halves_text kind above below =
    escape ++ (codes "0;38;" ++ (kind ++ (above ++ (codes ";48;" ++ (kind ++ (below ++ 0x6D ∷ upper))))))

-- the halves of a cell that are not black
abbrev pub light : Bool → Bool → List ℕ
light true true = codes " "
light false true = upper
light true false = 0xE2 ∷ 0x96 ∷ 0x84 ∷ []
light false false = 0xE2 ∷ 0x96 ∷ 0x88 ∷ []

-- the same in ASCII
abbrev pub light_in_ascii : Bool → Bool → List ℕ
light_in_ascii true true = codes " "
light_in_ascii false true = codes "\""
light_in_ascii true false = codes "_"
light_in_ascii false false = codes "#"

-- what a cell shows, written at the cursor
abbrev pub tile_text : Colours → Tile → List ℕ
tile_text colours (Letter code) = escape ++ (codes "0m" ++ code ∷ [])
tile_text colours (Inverse code) = escape ++ (codes "0;7m" ++ code ∷ [])
tile_text have.Full (Blocks above below) = halves_text (codes "2;") (slice_index_or rgb_values above []) (slice_index_or rgb_values below [])
tile_text have.Palette (Blocks above below) = halves_text (codes "5;") (slice_index_or nearest above []) (slice_index_or nearest below [])
tile_text have.None (Blocks above below) = escape ++ (codes "0m" ++ light (above == 0) (below == 0))
tile_text have.Ascii (Blocks above below) = escape ++ (codes "0m" ++ light_in_ascii (above == 0) (below == 0))

-- a cell showed the same before, in a picture whose cells are given by `shows`, from row and column
abbrev pub is_kept : {S : Type 0} → (S → ℕ → ℕ → Tile) → Option S → ℕ → ℕ → Tile → Bool
is_kept shows None row column tile = false
is_kept shows (Some before) row column tile = is_same (shows before row column) tile

-- a cell that changed: its position, and what it shows
abbrev pub cell_text : {S : Type 0} → (S → ℕ → ℕ → Tile) → Option S → S → Colours → ℕ → ℕ → List ℕ
cell_text shows before after colours row column =
    if is_kept shows before row column (shows after row column) then []
    else place_text (decimal (row + 1)) (decimal (column + 1)) ++ tile_text colours (shows after row column)

-- the cells that changed in a row, from left to right, and in all rows, from top to bottom
unfoldable pub row_text : {S : Type 0} → (S → ℕ → ℕ → Tile) → Option S → S → Colours → ℕ → ℕ → List ℕ
row_text shows before after colours columns row = flat_map (cell_text shows before after colours row) (numbers_from 0 columns)

unfoldable pub changes_text : {S : Type 0} → (S → ℕ → ℕ → Tile) → Option S → S → Colours → ℕ → ℕ → List ℕ
changes_text shows before after colours rows columns = flat_map (row_text shows before after colours columns) (numbers_from 0 rows)
