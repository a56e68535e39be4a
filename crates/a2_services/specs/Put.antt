-- Putting a byte on the screen: a character, a return, a line feed or a backspace. Apple II Reference Manual (1979), chapter 2,
-- on standard output and the text window, gives their purpose; the exact effects are this project's profile.
use Rattle.std.specs.Prelude.{ℕ, ◌+◌, ◌-◌, ◌/◌, ◌%◌, ◌&&◌, ◌==◌, nat_lt, nat_le, if◌then◌else◌}
use Rattle.a2_page.specs.declared.Page.TheVariants.{One}
use Rattle.a2_page.specs.Cells.{row_start}
use Rattle.a2_page.specs.Grid.{Grid, Window, blank, scrolled, with_byte}
use Rattle.a2_bus.specs.Locations as at
use Rattle.a2_bus.specs.Memory.{Memory, ram_byte, with_ram}
use Rattle.a2_effect.specs.Arithmetic.{by_digits}
use Rattle.a2_services.specs.Bytes.{carriage_return, line_feed, backspace}

-- the window given by its four locations
abbrev pub window_of : Memory → Window
window_of memory = record {
  left = ram_byte memory at.wndlft;
  width = ram_byte memory at.wndwdth;
  top = ram_byte memory at.wndtop;
  bottom = ram_byte memory at.wndbtm;
}

-- the cursor's column in the window
abbrev pub cursor_column : Memory → ℕ
cursor_column memory = ram_byte memory at.ch

abbrev pub with_cursor_column : ℕ → Memory → Memory
with_cursor_column column memory = with_ram memory at.ch column

-- the cursor's row on the screen
abbrev pub cursor_row : Memory → ℕ
cursor_row memory = ram_byte memory at.cv

abbrev pub with_cursor_row : ℕ → Memory → Memory
with_cursor_row row memory = with_ram memory at.cv row

-- the mask applied to characters
abbrev pub inverse_mask : Memory → ℕ
inverse_mask memory = ram_byte memory at.invflg

-- the prompt character at the start of a line
abbrev pub prompt_character : Memory → ℕ
prompt_character memory = ram_byte memory at.prompt

-- the cursor's column on the screen
abbrev pub screen_column : Memory → ℕ
screen_column memory = (window_of memory).left + cursor_column memory

abbrev pub with_page1 : Grid → Memory → Memory
with_page1 page memory = record memory { page1 = page }

-- the cursor moves down; in the window's last row or below it, the window scrolls instead
unfoldable pub after_line_feed : Memory → Memory
after_line_feed memory =
    if nat_lt (cursor_row memory + 1) (window_of memory).bottom then with_cursor_row (cursor_row memory + 1) memory
    else with_page1 (scrolled (window_of memory) memory.page1) memory

-- the cursor moves to the window's left edge and down
unfoldable pub after_return : Memory → Memory
after_return memory = after_line_feed (with_cursor_column 0 memory)

-- the cursor moves back; from the left edge it moves to the end of the row above, or of the same row if that is the window's
-- top row
unfoldable pub after_backspace : Memory → Memory
after_backspace memory =
    if nat_lt 0 (cursor_column memory) then with_cursor_column (cursor_column memory - 1) memory
    else
    let wrapped = with_cursor_column ((window_of memory).width - 1) memory in
    if nat_lt (window_of memory).top (cursor_row memory) then with_cursor_row (cursor_row memory - 1) wrapped else wrapped

-- the byte is written to the cursor's cell and the cursor moves forward; after the window's last column a return follows
unfoldable pub after_character : ℕ → Memory → Memory
after_character byte memory =
    let written = with_page1 (with_byte memory.page1 (cursor_row memory) (screen_column memory) byte) memory in
    let moved = with_cursor_column (cursor_column memory + 1) written in
    if nat_le (window_of memory).width (cursor_column memory + 1) then after_return moved else moved

-- a byte is put unmasked: a return, a line feed, a backspace, another control character (which does nothing), or a character
unfoldable pub after_put_unmasked : ℕ → Memory → Memory
after_put_unmasked byte memory =
    if byte == carriage_return then after_return memory
    else if byte == line_feed then after_line_feed memory
    else if byte == backspace then after_backspace memory
    else if nat_le 0x80 byte && nat_lt byte blank then memory
    else after_character byte memory

-- the byte that is put: masked if it is a blank or above
abbrev pub masked_by : ℕ → ℕ → ℕ
masked_by byte mask = if nat_le blank byte then by_digits 8 ◌&&◌ byte mask else byte

-- a byte is put after masking; the masked byte decides what happens
unfoldable pub after_put : ℕ → Memory → Memory
after_put byte memory = after_put_unmasked (masked_by byte (inverse_mask memory)) memory

-- BASL and BASH hold the address of the window's left edge in the cursor's row
unfoldable pub with_base_address : Memory → Memory
with_base_address memory =
    let base = row_start One (cursor_row memory) + (window_of memory).left in
    with_ram (with_ram memory at.basl (base % 256)) at.bash (base / 256)
