-- Worked examples of the definitions, checked by computation.
use Rattle.std.specs.Prelude.{◌≡◌, ℕ, ◌==◌, [], ◌∷◌, codes, Some, None, if◌then◌else◌, refl}
use Rattle.a2_hex.specs.ObjectLines.{store_of, address_before_colon, hex_bytes, byte_of}
use Rattle.a2_opcode.specs.Encoding.{fetched, decoded}
use Rattle.a2_opcode.specs.Listing.{listing}
use Rattle.a2_opcode.specs.Table.{row_of, table}
use Rattle.a2_page.specs.Cells.{cell_at}
use Rattle.a2_bus.specs.Devices.{Devices}
use Rattle.a2_bus.specs.Memory.{Memory, ram_byte, with_ram}
use Rattle.a2_monitor.specs.declared.fault.MonFault.TheVariants.{Backward, Outside}
use Rattle.a2_monitor.specs.declared.parsing.Range.{Range}
use Rattle.a2_monitor.specs.Commands.{command_of, nothing, examines, moves, verifies, lists, goes, stores}
use Rattle.a2_monitor.specs.SessionStates.{command_error, examined, differences, listed, with_stored_bytes, moved, bytes_at}

abbrev range : ℕ → ℕ → Range
range first last = record { first = first; last = last }

-- The meaning of lines

examine_line : command_of (codes " 300.30f ") ≡ Some (examines (range 0x300 0x30F))
unfolding command_of
examine_line = refl

move_line : command_of (codes "400<300.30Fm") ≡ Some (moves 0x400 (range 0x300 0x30F))
unfolding command_of
move_line = refl

go_line : command_of (codes "FF69G") ≡ Some (goes 0xFF69)
unfolding command_of
go_line = refl

store_line : command_of (codes "300:a9 1") ≡ Some (stores (record { address = Some 0x300; bytes = 0xA9 ∷ 1 ∷ [] }))
unfolding command_of store_of address_before_colon hex_bytes byte_of
store_line = refl

store_on_line : command_of (codes " : 5") ≡ Some (stores (record { address = None; bytes = 5 ∷ [] }))
unfolding command_of store_of address_before_colon hex_bytes byte_of
store_on_line = refl

long_byte_line : command_of (codes "300:123") ≡ None
unfolding command_of store_of address_before_colon hex_bytes byte_of
long_byte_line = refl

blank_line : command_of (codes " \t ") ≡ Some nothing
unfolding command_of
blank_line = refl

two_words_line : command_of (codes "300 .30F") ≡ None
unfolding command_of
two_words_line = refl

-- What commands answer, and the state after them

-- three bytes at $0300, and zeros elsewhere
abbrev memory_with : Devices → Memory
memory_with devices = record {
  page1 = [];
  page2 = [];
  plain = λ a. if a == 0x300 then 0x11 else if a == 0x301 then 0x22 else if a == 0x302 then 0x33 else 0;
  devices = devices;
}

module _ (devices : Devices) where
  examine_example : examined (memory_with devices) (range 0x300 0x304) ≡ codes "0300- 11 22 33 00 00\n"
  unfolding examined ram_byte cell_at
  examine_example = refl

  -- a new line begins at each address divisible by 8
  lines_example : examined (memory_with devices) (range 0x306 0x309) ≡ codes "0306- 00 00\n0308- 00 00\n"
  unfolding examined ram_byte cell_at
  lines_example = refl

  -- the destination begins in the range
  move_example : bytes_at (moved (memory_with devices) (range 0x300 0x303) 0x301) 0x300 6 ≡ 0x11 ∷ 0x11 ∷ 0x11 ∷ 0x11 ∷ 0x11 ∷ 0 ∷ []
  unfolding moved with_stored_bytes with_ram ram_byte cell_at
  move_example = refl

  -- the destination ends in the range
  down_example : bytes_at (moved (memory_with devices) (range 0x301 0x303) 0x300) 0x300 4 ≡ 0x22 ∷ 0x33 ∷ 0 ∷ 0 ∷ []
  unfolding moved with_stored_bytes with_ram ram_byte cell_at
  down_example = refl

  verify_example : differences (memory_with devices) (range 0x300 0x301) 0x310 ≡ codes "0300- 11 (00)\n0301- 22 (00)\n"
  unfolding differences ram_byte cell_at
  verify_example = refl

  list_example : listed (memory_with devices) 0x302 2 ≡ codes "0302-   33         ???\n0303-   00         BRK\n"
  unfolding listed ram_byte cell_at fetched row_of table listing decoded
  list_example = refl

-- Lines that are rejected

backward_example : command_error (examines (range 0x30F 0x300)) 0 ≡ Some Backward
unfolding command_error
backward_example = refl

backward_first_example : command_error (moves 0xFFFF (range 0xC005 0xC000)) 0 ≡ Some Backward
unfolding command_error
backward_first_example = refl

outside_example : command_error (moves 0xBFFF (range 0x300 0x301)) 0 ≡ Some Outside
unfolding command_error
outside_example = refl

last_example : command_error (verifies 0xBFFF (range 0x300 0x300)) 0 ≡ None
unfolding command_error
last_example = refl

next_example : command_error (stores (record { address = None; bytes = 1 ∷ [] })) 0xC000 ≡ Some Outside
unfolding command_error
next_example = refl

empty_example : command_error (stores (record { address = Some 0xC000; bytes = [] })) 0 ≡ None
unfolding command_error
empty_example = refl

list_outside_example : command_error (lists 0xC000) 0 ≡ Some Outside
unfolding command_error
list_outside_example = refl

go_example : command_error (goes 0xFF69) 0 ≡ None
unfolding command_error
go_example = refl
