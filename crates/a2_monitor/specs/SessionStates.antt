-- What the lines of a Monitor session answer, and the state after them. Apple II Reference Manual (1979), chapter 3,
-- "The System Monitor"; the exact form is this project's profile.
use Rattle.std.specs.Prelude.{◌≡◌, ℕ, zero, suc, ◌+◌, ◌-◌, ◌%◌, ◌==◌, nat_lt, nat_le, Bool, ◌&&◌, not, List, [], ◌∷◌, ◌++◌, length, map, codes, filter, Option, Some, None, unwrap_or, min, if◌then◌else◌}
use Rattle.std.specs.List.{flat_map}
use Rattle.a2_text.specs.Digits.{hex_pair, hex_word}
use Rattle.a2_text.specs.FirstError.{◌otherwise◌, error_if}
use Rattle.a2_hex.specs.ObjectLines.{lies_outside}
use Rattle.a2_hex.specs.ObjectText.{after_blank, run, begins_line}
use Rattle.a2_opcode.specs.Encoding.{no_byte, undocumented, instruction, fetched}
use Rattle.a2_opcode.specs.Listing.{listing}
use Rattle.a2_opcode.specs.Table.{length_of}
use Rattle.a2_page.specs.Cells.{numbers_from}
use Rattle.a2_bus.specs.Devices.{keys_typed}
use Rattle.a2_bus.specs.Memory.{Memory, ram_byte, with_ram, peek, ram_end}
use Rattle.a2_services.specs.World.{World}
use Rattle.a2_machine.specs.declared.causes.Cause.{Cause}
use Rattle.a2_machine.specs.ByteRun.{bytes}
use Rattle.a2_machine.specs.Meaning.{End, IsEnd}
use Rattle.a2_machine.specs.Output.{register_line, cause_line}
use Rattle.a2_machine.specs.Start.{called_at, start_world}
use Rattle.a2_machine.specs.State.{Device, world_of_state, most_steps}
use Rattle.a2_monitor.specs.declared.fault.MonFault.{MonFault}
use Rattle.a2_monitor.specs.declared.fault.MonFault.TheVariants.{Backward, Outside}
use Rattle.a2_monitor.specs.declared.parsing.Range.{Range}
use Rattle.a2_monitor.specs.Commands.{Command, nothing, examines, stores, moves, verifies, lists, goes}

-- the state of a session: the world of a machine whose guard is off, the steps since its start, and the next address
pub record SessionState : Type 0 where
  pub world : World
  pub steps : ℕ
  pub next : ℕ

-- a session as it is kept in memory: the machine, and the next address
pub record KeptSession : Type 0 where
  pub machine : Device
  pub next : ℕ

abbrev pub state_of_session : KeptSession → SessionState
state_of_session kept = let state = kept.machine.state in record { world = world_of_state state; steps = state.steps; next = kept.next }

-- the session with a machine that was just switched on
abbrev pub start_state : SessionState
start_state = record { world = start_world (λ _. None) 0x300 []; steps = 0; next = 0 }

-- a machine with its guard turned off
abbrev pub without_guard : Device → Device
without_guard machine = let state = machine.state in record machine { state = record state { guard = None } }

-- how many addresses a range has, and the addresses in rising order
abbrev pub size_of : Range → ℕ
size_of range = range.last + 1 - range.first

abbrev pub addresses : Range → List ℕ
addresses range = numbers_from range.first (size_of range)

-- Errors

-- the error of a range that goes backwards; and of a range, or the same number of bytes at another address, that is not
-- completely in RAM
abbrev pub range_error : Range → ℕ → Option MonFault
range_error range to =
    error_if (nat_lt range.last range.first) Backward
    otherwise error_if (lies_outside range.first (size_of range)) Outside
    otherwise error_if (lies_outside to (size_of range)) Outside

unfoldable pub command_error : Command → ℕ → Option MonFault
command_error nothing next = None
command_error (examines range) next = range_error range range.first
command_error (stores store) next = error_if (lies_outside (unwrap_or store.address next) (length store.bytes)) Outside
command_error (moves to range) next = range_error range to
command_error (verifies to range) next = range_error range to
command_error (lists at) next = error_if (nat_le ram_end at) Outside
command_error (goes at) next = None

-- Texts

-- the bytes of a memory at the addresses of a range only
abbrev pub range_bytes : Memory → Range → ℕ → Option ℕ
range_bytes memory range a = if nat_le range.first a && nat_le a range.last then Some (ram_byte memory a) else None

-- the line that begins at an address: the bytes up to the end of the range, or to the next address divisible by 8
abbrev pub examined_line : Memory → Range → ℕ → List ℕ
examined_line memory range a = hex_word a ++ codes "-" ++ flat_map after_blank (run (range_bytes memory range) a (8 - a % 8)) ++ codes "\n"

-- the bytes of a range, with a line that begins at its first address and at each address divisible by 8
unfoldable pub examined : Memory → Range → List ℕ
examined memory range = flat_map (examined_line memory range) (filter (begins_line (range_bytes memory range)) (addresses range))

-- the place that is as far after one address as another address is after the start of the range
abbrev pub place_in : Range → ℕ → ℕ → ℕ
place_in range to a = to + (a - range.first)

abbrev pub differs : Memory → Range → ℕ → ℕ → Bool
differs memory range to a = not (ram_byte memory a == ram_byte memory (place_in range to a))

abbrev pub difference_line : Memory → Range → ℕ → ℕ → List ℕ
difference_line memory range to a =
    hex_word a ++ codes "- " ++ hex_pair (ram_byte memory a) ++ codes " (" ++ hex_pair (ram_byte memory (place_in range to a)) ++ codes ")\n"

-- the places at which the bytes differ
unfoldable pub differences : Memory → Range → ℕ → List ℕ
differences memory range to = flat_map (difference_line memory range to) (filter (differs memory range to) (addresses range))

-- the given number of bytes from an address on
abbrev pub bytes_at : Memory → ℕ → ℕ → List ℕ
bytes_at memory at count = map (ram_byte memory) (numbers_from at count)

abbrev pub listing_line : Memory → ℕ → ℕ → List ℕ
listing_line memory at count = listing (bytes_at memory at count) at ++ codes "\n"

-- the given number of lines of a listing, or only those before the first instruction that is not completely in RAM
unfoldable pub listed : Memory → ℕ → ℕ → List ℕ
listed memory at zero = []
listed memory at (suc more) =
    elim (fetched (peek memory) at) [
      | no_byte ↦ []
      | undocumented ↦ listing_line memory at 1 ++ listed memory (at + 1) more
      | instruction row value ↦ listing_line memory at (length_of row.mode) ++ listed memory (at + length_of row.mode) more
    ]

-- The state afterwards

-- the memory with these bytes from an address upwards
unfoldable pub with_stored_bytes : Memory → ℕ → List ℕ → Memory
with_stored_bytes memory at [] = memory
with_stored_bytes memory at (byte ∷ bytes) = with_stored_bytes (with_ram memory at byte) (at + 1) bytes

-- the source of the byte at a place of the destination; if the destination begins in the range, the bytes before the
-- destination are copied repeatedly
abbrev pub source_of : Range → ℕ → ℕ → ℕ
source_of range to i = range.first + (if nat_lt range.first to then i % (to - range.first) else i)

-- the bytes that are copied
abbrev pub copied : Memory → Range → ℕ → List ℕ
copied memory range to = map (λ i. ram_byte memory (source_of range to i)) (numbers_from 0 (size_of range))

unfoldable pub moved : Memory → Range → ℕ → Memory
moved memory range to = with_stored_bytes memory to (copied memory range to)

abbrev pub state_with : SessionState → Memory → SessionState
state_with session_state memory = let world = session_state.world in record session_state { world = record world { memory = memory } }

-- a run without guard from a world, for at most this many steps, and no more than the machine has left
pub record IsFreeRun (start : World) (limit : ℕ) (old new : SessionState) (cause : Cause) : Type 0 where
  pub end : End
  pub runs : IsEnd (bytes None) start (min limit (most_steps - old.steps)) end
  pub left : new ≡ record { world = end.world; steps = old.steps + end.steps; next = old.next }
  pub cause_is : cause ≡ end.cause

-- what is reported after a run: registers, counts and the cause
abbrev pub end_lines : World → ℕ → Cause → List ℕ
end_lines world steps cause = register_line world.registers steps world.cycles ++ cause_line cause

-- the most steps of a program that a line calls
abbrev pub steps_of_call : ℕ
steps_of_call = 1_000_000

-- a program is called at an address
abbrev pub IsCalled : ℕ → SessionState → SessionState → Cause → Type 0
IsCalled at old new cause = IsFreeRun (called_at at old.world) steps_of_call old new cause

-- a session after these keys were typed, after those that are waiting
abbrev pub with_keys : List ℕ → SessionState → SessionState
with_keys keys session_state =
    let world = session_state.world in let memory = world.memory in
    record session_state { world = record world { memory = record memory { devices = keys_typed memory.devices keys } } }

abbrev pub CommandDoes : Command → SessionState → List ℕ → SessionState → Type 0
CommandDoes nothing old text new = (text ≡ []) × (new ≡ old)
CommandDoes (examines range) old text new = (text ≡ examined old.world.memory range) × (new ≡ record old { next = range.first })
CommandDoes (stores store) old text new =
    (text ≡ []) × (new ≡ (let at = unwrap_or store.address old.next in
    record (state_with old (with_stored_bytes old.world.memory at store.bytes)) { next = at + length store.bytes }))
CommandDoes (moves to range) old text new = (text ≡ []) × (new ≡ state_with old (moved old.world.memory range to))
CommandDoes (verifies to range) old text new = (text ≡ differences old.world.memory range to) × (new ≡ old)
CommandDoes (lists at) old text new = (text ≡ listed old.world.memory at 20) × (new ≡ old)
CommandDoes (goes at) old text new = (cause : Cause) × IsCalled at old new cause × (text ≡ end_lines new.world new.steps cause)
