-- The bytes that the Monitor's services read and store, and the registers that they use and set. Apple II Reference
-- Manual (1979), chapter 3, describes the purpose of each; the exact effects are this project's profile.
use Rattle.std.specs.Prelude.{ℕ, ◌+◌, ◌-◌, ◌/◌, ◌%◌, Bool, true, false, ◌&&◌, ◌||◌, ◌==◌, nat_lt, nat_le, if◌then◌else◌, List, [], ◌∷◌, ◌++◌, map}
use Rattle.std.specs.List.{flat_map}
use Rattle.a2_page.specs.declared.Page.TheVariants.{One}
use Rattle.a2_page.specs.Cells.{address_of, numbers_from}
use Rattle.a2_page.specs.Grid.{Window, blank}
use Rattle.a2_bus.specs.Locations as at
use Rattle.a2_bus.specs.Memory.{Memory, ram_byte}
use Rattle.a2_effect.specs.Registers.{Registers}
use Rattle.a2_services.specs.Blocks.{numbers_from_to}
use Rattle.a2_services.specs.Bytes.{carriage_return, line_feed, backspace}
use Rattle.a2_services.specs.declared.rows.Service.{Service}
use Rattle.a2_services.specs.declared.rows.Needs.{Needs}
use Rattle.a2_services.specs.declared.rows.Needs.TheVariants as need
use Rattle.a2_services.specs.declared.rows.Reach.{Reach}
use Rattle.a2_services.specs.declared.rows.Reach.TheVariants as reaches
use Rattle.a2_services.specs.declared.rows.Takes.{Takes}
use Rattle.a2_services.specs.declared.rows.Takes.TheVariants as span
use Rattle.a2_services.specs.declared.rows.RegisterSet.{RegisterSet}
use Rattle.a2_services.specs.declared.rows.RegisterSet.TheVariants as set
use Rattle.a2_services.specs.declared.rows.OnScreen.{OnScreen}
use Rattle.a2_services.specs.declared.rows.OnScreen.TheVariants as cells
use Rattle.a2_services.specs.Rows.{service_row}
use Rattle.a2_services.specs.Put.{window_of, cursor_column, cursor_row, screen_column, inverse_mask, masked_by, after_put}
use Rattle.a2_services.specs.Services.{digit_byte}
use Rattle.a2_services.specs.World.{World}
use Rattle.a2_footprint.specs.InstructionReads.{pull_address}
use Rattle.a2_footprint.specs.declared.Part.{Part}
use Rattle.a2_footprint.specs.declared.Part.TheVariants.{A as part_a, X as part_x, Y as part_y}

-- Everything here is derived from the row of a service, in a2_services.

-- A service needs no key. For services that need one, this file does not define what they read and where they store.
abbrev pub needs_no_key : Needs → Bool
needs_no_key need.Key = false
needs_no_key need.Line = false
needs_no_key _ = true

abbrev pub is_keyless : Service → Bool
is_keyless service = needs_no_key (service_row service).needs

abbrev pub parts_in : RegisterSet → List Part
parts_in set.Empty = []
parts_in set.A = part_a ∷ []
parts_in set.X = part_x ∷ []
parts_in set.AAndY = part_a ∷ part_y ∷ []

-- the registers that a service uses, and those that it sets
abbrev pub service_needs : Service → List Part
service_needs service = parts_in (service_row service).looks_at

abbrev pub service_sets : Service → List Part
service_sets service = parts_in (service_row service).sets

-- Cells of page 1

-- this many cells of a row, starting at a column
abbrev pub cells_across : ℕ → ℕ → ℕ → List ℕ
cells_across row column count = numbers_from (address_of One row column) count

-- the cells of a window, row by row
abbrev pub window_cells : Window → List ℕ
window_cells window =
    flat_map (λ row. cells_across row window.left window.width) (numbers_from window.top (window.bottom - window.top))

abbrev pub cursor_cell : Memory → ℕ
cursor_cell memory = address_of One (cursor_row memory) (screen_column memory)

-- the cells from the cursor to the window's right edge, and the rows of the window below the cursor
abbrev pub cells_to_end : Memory → List ℕ
cells_to_end memory = cells_across (cursor_row memory) (screen_column memory) ((window_of memory).width - cursor_column memory)

abbrev pub cells_below : Memory → List ℕ
cells_below memory = window_cells (record (window_of memory) { top = cursor_row memory + 1 })

-- the cell at a row and a column of blocks
abbrev pub block_cell : ℕ → ℕ → ℕ
block_cell row column = address_of One (row / 2) column

-- the cells of the blocks that HLINE plots, and of those that VLINE plots
abbrev pub blocks_across : Registers → Memory → List ℕ
blocks_across registers memory = map (λ column. block_cell registers.a column) (numbers_from_to registers.y (ram_byte memory at.h2))

abbrev pub blocks_down : Registers → Memory → List ℕ
blocks_down registers memory = map (λ row. block_cell row registers.y) (numbers_from_to registers.a (ram_byte memory at.v2))

-- A byte that is printed

-- the byte with the mask applied, if it is a blank or more
abbrev pub masked : ℕ → Memory → ℕ
masked byte memory = masked_by byte (inverse_mask memory)

-- the cells of the window, which a line feed moves if the cursor cannot go down
abbrev pub scrolled_cells : Memory → List ℕ
scrolled_cells memory =
    if nat_lt (cursor_row memory + 1) (window_of memory).bottom then [] else window_cells (window_of memory)

-- the cells that are moved if a character is printed in the window's last column
abbrev pub wrapped_cells : Memory → List ℕ
wrapped_cells memory = if nat_le (window_of memory).width (cursor_column memory + 1) then scrolled_cells memory else []

-- the cells that a byte moves after it is masked, and those that it changes
abbrev pub moved_by : ℕ → Memory → List ℕ
moved_by byte memory =
    if byte == carriage_return || byte == line_feed then scrolled_cells memory
    else if byte == backspace || nat_le 0x80 byte && nat_lt byte blank then []
    else wrapped_cells memory

abbrev pub changed_by : ℕ → Memory → List ℕ
changed_by byte memory =
    if byte == carriage_return || byte == line_feed then scrolled_cells memory
    else if byte == backspace || nat_le 0x80 byte && nat_lt byte blank then []
    else cursor_cell memory ∷ wrapped_cells memory

abbrev pub put_moves : ℕ → Memory → List ℕ
put_moves byte memory = moved_by (masked byte memory) memory

abbrev pub put_changes : ℕ → Memory → List ℕ
put_changes byte memory = changed_by (masked byte memory) memory

-- What a service reads

abbrev pub window_bytes : List ℕ
window_bytes = at.wndlft ∷ at.wndwdth ∷ at.wndtop ∷ at.wndbtm ∷ []

abbrev pub cursor_bytes : List ℕ
cursor_bytes = at.ch ∷ at.cv ∷ window_bytes

-- the bytes of window, cursor or block that decide whether the service fits
abbrev pub fit_bytes : Needs → List ℕ
fit_bytes need.Window = window_bytes
fit_bytes need.Cursor = cursor_bytes
fit_bytes need.Across = at.h2 ∷ []
fit_bytes need.Down = at.v2 ∷ []
fit_bytes _ = []

-- the bytes that hold where execution continues: those of a hook, or the return address
abbrev pub continuation_bytes_by : Takes → ℕ → List ℕ
continuation_bytes_by span.OutputHook s = at.csw ∷ (at.csw + 1) ∷ []
continuation_bytes_by span.InputHook s = at.ksw ∷ (at.ksw + 1) ∷ []
continuation_bytes_by _ s = pull_address s 1 ∷ pull_address s 2 ∷ []

abbrev pub continuation_bytes : Service → ℕ → List ℕ
continuation_bytes service s = continuation_bytes_by (service_row service).takes s

-- the bytes from which it computes what it stores
abbrev pub screen_bytes_used : OnScreen → Registers → Memory → List ℕ
screen_bytes_used cells.PutsByte registers memory = at.invflg ∷ put_moves registers.a memory
screen_bytes_used cells.PutsDigits registers memory =
    let high = digit_byte (registers.a / 16) in
    at.invflg ∷ put_moves high memory ++ put_moves (digit_byte (registers.a % 16)) (after_put high memory)
screen_bytes_used cells.PutsDigit registers memory = at.invflg ∷ put_moves (digit_byte (registers.a % 16)) memory
screen_bytes_used cells.PaintsBlock registers memory = at.color ∷ block_cell registers.a registers.y ∷ []
screen_bytes_used cells.PaintsAcross registers memory = at.color ∷ blocks_across registers memory
screen_bytes_used cells.PaintsDown registers memory = at.color ∷ blocks_down registers memory
screen_bytes_used cells.LooksAtBlock registers memory = block_cell registers.a registers.y ∷ []
screen_bytes_used _ registers memory = []

abbrev pub bytes_used : Service → Registers → Memory → List ℕ
bytes_used service registers memory = screen_bytes_used (service_row service).on_screen registers memory

unfoldable pub service_reads : Service → World → List ℕ
service_reads service world =
    continuation_bytes service world.registers.s
    ++ fit_bytes (service_row service).needs
    ++ bytes_used service world.registers world.memory

-- Where a service stores

abbrev pub base_bytes : List ℕ
base_bytes = at.basl ∷ at.bash ∷ []

abbrev pub output_bytes : List ℕ
output_bytes = at.ch ∷ at.cv ∷ base_bytes

-- the bytes within its reach at which it stores, except the cells of the screen
abbrev pub bytes_set : Reach → List ℕ
bytes_set reaches.Screen = output_bytes
bytes_set reaches.Mask = at.invflg ∷ []
bytes_set reaches.Base = base_bytes
bytes_set reaches.BaseAndPage = base_bytes
bytes_set reaches.Color = at.color ∷ []
bytes_set reaches.Graphics = at.color ∷ at.v2 ∷ []
bytes_set _ = []

-- the cells that it changes
abbrev pub cells_changed : OnScreen → Registers → Memory → List ℕ
cells_changed cells.PutsByte registers memory = put_changes registers.a memory
cells_changed cells.PutsDigits registers memory =
    let high = digit_byte (registers.a / 16) in
    put_changes high memory ++ put_changes (digit_byte (registers.a % 16)) (after_put high memory)
cells_changed cells.PutsDigit registers memory = put_changes (digit_byte (registers.a % 16)) memory
cells_changed cells.ClearsWindow registers memory = window_cells (window_of memory)
cells_changed cells.ClearsToEnd registers memory = cells_to_end memory
cells_changed cells.ClearsBelow registers memory = cells_to_end memory ++ cells_below memory
cells_changed cells.PaintsBlock registers memory = block_cell registers.a registers.y ∷ []
cells_changed cells.PaintsAcross registers memory = blocks_across registers memory
cells_changed cells.PaintsDown registers memory = blocks_down registers memory
cells_changed cells.ClearsBlocks registers memory = window_cells (record { left = 0; width = 40; top = 0; bottom = 24 })
cells_changed _ registers memory = []

unfoldable pub service_stores : Service → World → List ℕ
service_stores service world =
    bytes_set (service_row service).reach ++ cells_changed (service_row service).on_screen world.registers world.memory
