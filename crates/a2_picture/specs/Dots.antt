-- The colour of each dot that the screen shows, as a number of colours.txt. Apple II Reference Manual (1979), pages 12 to 21. The manual says
-- that two dots beside each other in hi-res are white; that dots past the ends of a row are off is this project's profile.
use Rattle.std.specs.Prelude.{ℕ, ◌+◌, ◌-◌, ◌*◌, ◌/◌, ◌%◌, ◌^◌, ◌==◌, nat_lt, nat_le, Bool, ◌&&◌, ◌||◌, List, slice_index, if◌then◌else◌}
use Rattle.a2_page.specs.declared.Switches.{Switches}
use Rattle.a2_page.specs.declared.Half.TheVariants.{Above, Below}
use Rattle.a2_page.specs.declared.Page.{Page}
use Rattle.a2_page.specs.declared.Page.TheVariants.{One, Two}
use Rattle.a2_page.specs.Cells.{row_offset, address_of}
use Rattle.a2_page.specs.Picture.{first_text_row}
use Rattle.a2_page.specs.Text.{block}
use Rattle.a2_picture.specs.Shapes.{is_shape_dot}

-- the text page with this number
abbrev pub page : Bool → Page
page page2 = if page2 then Two else One

-- the byte of the text page in whose cell a dot is: a cell has 7 by 8 dots
abbrev pub cell_byte : List ℕ → Bool → ℕ → ℕ → ℕ
cell_byte ram page2 x y = slice_index ram (address_of (page page2) (y / 8) (x / 7))

-- a dot of a character: of its shape if it is normal, and of its ground if it is inverse or flashing
abbrev pub character_dot : ℕ → ℕ → ℕ → ℕ
character_dot byte line column =
    if is_shape_dot (byte % 64) line column then (if nat_lt byte 0x80 then 0 else 16) else (if nat_lt byte 0x80 then 16 else 0)

-- a dot of a block: the upper four of a cell's lines show one, the lower four the other
abbrev pub block_dot : ℕ → ℕ → ℕ
block_dot byte line = if nat_lt line 4 then block byte Above else block byte Below

-- the address of the hi-res byte of a dot
abbrev pub hires_address : Bool → ℕ → ℕ → ℕ
hires_address page2 x y = (if page2 then 0x4000 else 0x2000) + 1024 * (y % 8) + (row_offset (y / 8) + x / 7)

-- whether a dot of a hi-res byte is on: bit 0 is on the left
unfoldable pub is_bit : ℕ → ℕ → Bool
is_bit byte column = byte / 2 ^ column % 2 == 1

-- whether a hi-res dot is on
abbrev pub is_on : List ℕ → Bool → ℕ → ℕ → Bool
is_on ram page2 x y = is_bit (slice_index ram (hires_address page2 x y)) (x % 7)

-- whether the dot to the left or to the right of a hi-res dot is on
unfoldable pub is_beside : List ℕ → Bool → ℕ → ℕ → Bool
is_beside ram page2 x y = (nat_lt 0 x && is_on ram page2 (x - 1) y) || (nat_lt (x + 1) 280 && is_on ram page2 (x + 1) y)

-- a hi-res dot
unfoldable pub hires_dot : List ℕ → Bool → ℕ → ℕ → ℕ
hires_dot ram page2 x y =
    if is_on ram page2 x y then
    (if is_beside ram page2 x y then 15
    else 17 + 2 * (slice_index ram (hires_address page2 x y) / 128) + x % 2)
    else 0

-- a dot of the screen, from its left and from its top
unfoldable pub dot : List ℕ → Switches → ℕ → ℕ → ℕ
dot ram switches x y =
    if nat_le (first_text_row switches) (y / 8) then character_dot (cell_byte ram switches.page2 x y) (y % 8) (x % 7)
    else if switches.hires then hires_dot ram switches.page2 x y
    else block_dot (cell_byte ram switches.page2 x y) (y % 8)
