-- An example of a promise that holds: ASL A, STA $06, RTS doubles A. This project's own.
use Rattle.std.specs.Prelude.{◌≡◌, ◌==◌, ◌*◌, ℕ, false, nat_lt, if◌then◌else◌, List, [], ◌∷◌, Option, Some, None, slice_index}
use Rattle.a2_opcode.specs.declared.Instr.{Instr}
use Rattle.a2_opcode.specs.declared.Mnemonic.TheVariants.{Asl, Rts, Sta}
use Rattle.a2_opcode.specs.declared.Mode.TheVariants.{Accumulator, Implied, ZeroPage}
use Rattle.a2_page.specs.Grid.{IsGrid}
use Rattle.a2_bus.specs.Memory.{Memory, ram_byte}
use Rattle.a2_effect.specs.Registers.{registers_at}
use Rattle.a2_machine.specs.Meaning.{statements}
use Rattle.a2_footprint.specs.declared.Part.TheVariants.{A as part_a}
use Rattle.a2_footprint.specs.Parts.{is_part}
use Rattle.a2_footprint.specs.Promises.{Selection, Promise, Passes, Holds}

abbrev pub doubling : ℕ → Option Instr
doubling pc =
    if pc == 0x300 then Some (record { mnemonic = Asl; mode = Accumulator; value = 0 })
    else if pc == 0x301 then Some (record { mnemonic = Sta; mode = ZeroPage; value = 0x06 })
    else if pc == 0x303 then Some (record { mnemonic = Rts; mode = Implied; value = 0 })
    else None

abbrev pub only_a : Selection
only_a = record { addresses = []; parts = is_part part_a }

abbrev pub only_bytes : List ℕ → Selection
only_bytes addresses = record { addresses = addresses; parts = λ part. false }

-- For every A below 128, $06 is 2 * A at the end. $01FE and $01FF are fixed; X, Y, the flags and all other bytes are
-- not used.
abbrev pub doubling_promise : Memory → Promise
doubling_promise memory = record {
  code = statements doubling (0x300 ∷ 0x301 ∷ 0x302 ∷ 0x303 ∷ []);
  base = record { registers = registers_at 0x300; memory = memory; cycles = 0 };
  inputs = only_a;
  fixed = only_bytes (0x1FE ∷ 0x1FF ∷ []);
  before = only_a;
  required = λ entry. nat_lt entry.registers.a 128;
  following = only_bytes (0x06 ∷ []);
  test = λ entry end. slice_index end.bytes 0 == 2 * entry.registers.a;
}

-- it holds within 3 steps, with any memory as its base in which the last two bytes of the stack return to $FF69
abbrev pub DoublingHolds : Type 0
DoublingHolds =
    (memory : Memory) → IsGrid memory.page1 × IsGrid memory.page2 → (ram_byte memory 0x1FE ≡ 0x68) × (ram_byte memory 0x1FF ≡ 0xFF)
    → Holds (doubling_promise memory) (Passes (doubling_promise memory) 3)
