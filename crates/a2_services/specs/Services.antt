-- The Monitor's services. Their names, addresses and purposes come from the Apple II Reference Manual (1979), chapter 3, "The
-- System Monitor", and chapter 2, on standard input and GETLN, describes how a line is read; the exact effects and the cycles
-- are this project's profile.
use Rattle.std.specs.Prelude.{ℕ, zero, suc, ◌+◌, ◌-◌, ◌*◌, ◌/◌, ◌%◌, Bool, true, false, not, ◌&&◌, ◌||◌, List, [], ◌∷◌, ◌==◌, nat_lt, nat_le, if◌then◌else◌, Option, find, replicate}
use Rattle.std.specs.List.{list_any}
use Rattle.a2_text.specs.Bytes.{is_between}
use Rattle.a2_page.specs.Grid.{blank, cleared, byte_in, with_row_part}
use Rattle.a2_page.specs.Text.{blocks_of}
use Rattle.a2_bus.specs.Devices.{key_taken}
use Rattle.a2_bus.specs.Locations as at
use Rattle.a2_bus.specs.Memory.{Memory, ram_byte, with_ram, memory_access}
use Rattle.a2_effect.specs.Instruction.{returned, with_pc}
use Rattle.a2_effect.specs.Registers.{Registers}
use Rattle.a2_services.specs.declared.rows.Service.{Service}
use Rattle.a2_services.specs.declared.rows.Service.TheVariants.{Cout, Cout1, Crout, Home, Prbyte, Prhex, Setinv, Setnorm, Vtab, Clreol, Clreop, Rdkey, Keyin, Getln, Wait, Setcol, Plot, Hline, Vline, Scrn, Clrscr}
use Rattle.a2_services.specs.declared.rows.Needs.{Needs}
use Rattle.a2_services.specs.declared.rows.Needs.TheVariants as need
use Rattle.a2_services.specs.declared.rows.Reach.{Reach}
use Rattle.a2_services.specs.declared.rows.Reach.TheVariants as reaches
use Rattle.a2_services.specs.declared.rows.Takes.{Takes}
use Rattle.a2_services.specs.declared.rows.Takes.TheVariants as span
use Rattle.a2_services.specs.Rows.{service_row, services}
use Rattle.a2_services.specs.Bytes.{carriage_return, backspace, cancel, backslash, return_key, right_arrow_key}
use Rattle.a2_services.specs.World.{World}
use Rattle.a2_services.specs.Blocks.{painted, painted_across, painted_down, numbers_from_to, black}
use Rattle.a2_services.specs.Put.{window_of, cursor_column, cursor_row, with_cursor_column, with_cursor_row, screen_column, prompt_character, with_page1, after_put, after_put_unmasked, with_base_address}

-- the service at an address, if any
unfoldable pub service_at : ℕ → Option Service
service_at address = find (λ service. (service_row service).address == address) services

-- What a service needs

-- the window lies on the screen
abbrev pub window_fits : Memory → Bool
window_fits memory =
    let window = window_of memory in
    nat_le 1 window.width && nat_le (window.left + window.width) 40 && nat_lt window.top window.bottom && nat_le window.bottom 24

-- the cursor is on the screen
abbrev pub cursor_fits : Memory → Bool
cursor_fits memory = nat_lt (cursor_row memory) 24 && nat_lt (screen_column memory) 40

-- A is a row of blocks and Y is a column
abbrev pub block_fits : Registers → Bool
block_fits registers = nat_lt registers.a 48 && nat_lt registers.y 40

-- window, cursor and registers are as they are needed
abbrev pub positions_fit : Needs → Registers → Memory → Bool
positions_fit need.Window registers memory = window_fits memory
positions_fit need.Cursor registers memory = window_fits memory && cursor_fits memory
positions_fit need.Line registers memory = window_fits memory && cursor_fits memory
positions_fit need.Block registers memory = block_fits registers
positions_fit need.Across registers memory = block_fits registers && nat_lt (ram_byte memory at.h2) 40
positions_fit need.Down registers memory = block_fits registers && nat_lt (ram_byte memory at.v2) 48
positions_fit _ registers memory = true

-- window, cursor and blocks are where the service needs them
abbrev pub fits : Service → Registers → Memory → Bool
fits service registers memory = positions_fit (service_row service).needs registers memory

-- RETURN is among the keys
abbrev pub has_return : List ℕ → Bool
has_return keys = list_any (λ key. key == return_key) keys

-- the needed keys are not waiting: a key, or a whole line
abbrev pub needed_keys_missing : Needs → List ℕ → Bool
needed_keys_missing need.Key keys = elim keys [ [] ↦ true | key ∷ rest ↦ false ]
needed_keys_missing need.Line keys = not (has_return keys)
needed_keys_missing _ keys = false

-- keys that the service needs are missing
abbrev pub lacks_keys : Service → Memory → Bool
lacks_keys service memory = needed_keys_missing (service_row service).needs memory.devices.keys

-- Where a service may store

-- the line that GETLN reads, 256 bytes
abbrev pub line_buffer : ℕ
line_buffer = 0x200

-- BASL and BASH
abbrev pub base_reach : ℕ → Bool
base_reach address = is_between at.basl at.bash address

-- page 1, including the bytes between its rows
abbrev pub page_reach : ℕ → Bool
page_reach address = is_between 0x400 0x7FF address

-- CH, CV, BASL, BASH and page 1
abbrev pub output_reach : ℕ → Bool
output_reach address = is_between at.ch at.cv address || base_reach address || page_reach address

-- the address is in the reach
abbrev pub is_reached : Reach → ℕ → Bool
is_reached reaches.Nowhere address = false
is_reached reaches.Screen address = output_reach address
is_reached reaches.ScreenAndLine address = output_reach address || is_between line_buffer 0x2FF address
is_reached reaches.Mask address = address == at.invflg
is_reached reaches.Base address = base_reach address
is_reached reaches.Page address = page_reach address
is_reached reaches.BaseAndPage address = base_reach address || page_reach address
is_reached reaches.Color address = address == at.color
is_reached reaches.Graphics address = address == at.v2 || address == at.color || page_reach address

-- the service may store at the address
unfoldable pub reach : Service → ℕ → Bool
reach service address = is_reached (service_row service).reach address

-- Reading a line. Apple II Reference Manual (1979), chapter 2, GETLN

-- a line being read: the memory, and the line's length in bytes
pub record Reading : Type 0 where
  pub memory : Memory
  pub len : ℕ

-- the memory after the first waiting key is taken
abbrev pub with_key_taken : Memory → Memory
with_key_taken memory = record memory { devices = key_taken memory.devices }

-- the byte that a key stands for: the right arrow stands for the byte in the cursor's cell, and small letters become capitals
abbrev pub byte_of_key : Memory → ℕ → ℕ
byte_of_key memory key =
    let byte = if key == right_arrow_key then byte_in memory.page1 (cursor_row memory) (screen_column memory) else 0x80 + key in
    if nat_le 0xE0 byte then byte - 0x20 else byte

-- the memory after the cells from the cursor to the window's right edge are made blank
unfoldable pub cleared_to_end : Memory → Memory
cleared_to_end memory =
    let blanks = replicate ((window_of memory).width - cursor_column memory) blank in
    with_page1 (with_row_part memory.page1 (cursor_row memory) (screen_column memory) blanks) memory

-- a new line with the prompt at its start
abbrev pub after_prompt : Memory → Memory
after_prompt memory = after_put (prompt_character memory) (after_put carriage_return memory)

-- a cancelled line: a backslash and a new line
abbrev pub after_cancel : Memory → Reading
after_cancel memory = record { memory = after_prompt (after_put backslash memory); len = 0 }

-- the line after a byte that does not end it: the byte is echoed and then treated as a backspace, a cancellation or one more
-- byte; a line of 256 bytes is cancelled
abbrev pub after_byte : ℕ → Reading → Reading
after_byte byte line =
    let echoed = after_put_unmasked byte line.memory in
    if byte == backspace then
    elim line.len [ zero ↦ record { memory = after_prompt echoed; len = 0 } | suc len ↦ record { memory = echoed; len = len } ]
    else if byte == cancel then after_cancel echoed
    else if line.len == 255 then after_cancel echoed
    else record { memory = echoed; len = line.len + 1 }

-- the line that the keys produce, starting from what has been read so far, up to its return, which is not included
unfoldable pub line_read : List ℕ → Reading → Reading
line_read [] line = line
line_read (key ∷ keys) line =
    let byte = byte_of_key line.memory key in
    let kept : Reading = record { memory = with_ram (with_key_taken line.memory) (line_buffer + line.len) byte; len = line.len } in
    if byte == carriage_return then record { memory = after_put carriage_return (cleared_to_end kept.memory); len = kept.len }
    else line_read keys (after_byte byte kept)

-- The effect of each service

abbrev pub with_memory : Memory → World → World
with_memory memory world = record world { memory = memory }

abbrev pub with_a : ℕ → World → World
with_a a world = record world { registers = record world.registers { a = a } }

abbrev pub with_x : ℕ → World → World
with_x x world = record world { registers = record world.registers { x = x } }

-- an output service leaves this memory, with the base address stored at the end
abbrev pub output : Memory → World → World
output memory world = with_memory (with_base_address memory) world

-- the character of a hexadecimal digit, with bit 7 set
abbrev pub digit_byte : ℕ → ℕ
digit_byte digit = if nat_lt digit 10 then 0xB0 + digit else 0xB7 + digit

-- the cycles of WAIT
abbrev pub wait_cycles : ℕ → ℕ
wait_cycles a = if a == 0 then 167293 else (14 + 27 * a + 5 * a * a) / 2

-- the cycles of a service, given the registers before it
abbrev pub cycles_of : Takes → Registers → ℕ
cycles_of span.OutputHook registers = 5
cycles_of span.InputHook registers = 5
cycles_of span.Six registers = 6
cycles_of span.Wait registers = wait_cycles registers.a

-- PC is pulled from the stack, as RTS does
abbrev pub back : World → World
back world = returned memory_access world

-- PC is set through a hook: to the 16-bit word stored there, low byte first
abbrev pub through : ℕ → World → World
through hook world = with_pc (ram_byte world.memory hook + 256 * ram_byte world.memory (hook + 1)) world

-- the memory after the window's rows below the cursor's are made blank
abbrev pub cleared_below : Memory → Memory
cleared_below memory =
    let below = record (window_of memory) { top = cursor_row memory + 1 } in
    with_page1 (cleared below memory.page1) memory

-- the effect of a call of a service that fits and lacks no keys, apart from the cycles
unfoldable pub effect : Service → World → World
effect Cout world = through at.csw world
effect Cout1 world = back (output (after_put world.registers.a world.memory) world)
effect Crout world = through at.csw (with_a carriage_return world)
effect Home world =
    let blank = with_page1 (cleared (window_of world.memory) world.memory.page1) world.memory in
    back (output (with_cursor_row (window_of world.memory).top (with_cursor_column 0 blank)) world)
effect Prbyte world =
    let a = world.registers.a in
    back (output (after_put (digit_byte (a % 16)) (after_put (digit_byte (a / 16)) world.memory)) world)
effect Prhex world = back (output (after_put (digit_byte (world.registers.a % 16)) world.memory) world)
effect Setinv world = back (with_memory (with_ram world.memory at.invflg 0x3F) world)
effect Setnorm world = back (with_memory (with_ram world.memory at.invflg 0xFF) world)
effect Vtab world = back (output world.memory world)
effect Clreol world = back (with_memory (cleared_to_end world.memory) world)
effect Clreop world = back (output (cleared_below (cleared_to_end world.memory)) world)
effect Rdkey world = through at.ksw world
effect Keyin world =
    elim world.memory.devices.keys [
      | [] ↦ world
      | key ∷ keys ↦ back (with_a (0x80 + key) (with_memory (with_key_taken world.memory) world))
    ]
effect Getln world =
    let memory = world.memory in
    let line = line_read memory.devices.keys (record { memory = after_put (prompt_character memory) memory; len = 0 }) in
    back (with_x line.len (output line.memory world))
effect Wait world = back (with_a 0 world)
effect Setcol world = back (with_memory (with_ram world.memory at.color (17 * (world.registers.a % 16))) world)
effect Plot world = back (with_memory (painted world.registers.a world.registers.y world.memory) world)
effect Hline world =
    let columns = numbers_from_to world.registers.y (ram_byte world.memory at.h2) in
    back (with_memory (painted_across world.registers.a columns world.memory) world)
effect Vline world =
    let rows = numbers_from_to world.registers.a (ram_byte world.memory at.v2) in
    back (with_memory (painted_down rows world.registers.y world.memory) world)
effect Scrn world = back (with_a (byte_in (blocks_of world.memory.page1) world.registers.a world.registers.y) world)
effect Clrscr world = back (with_memory (with_ram (with_ram (with_page1 black world.memory) at.color 0) at.v2 47) world)

-- the world after a call of a service that fits and lacks no keys
unfoldable pub served : Service → World → World
served service world =
    record (effect service world) { cycles = world.cycles + cycles_of (service_row service).takes world.registers }
