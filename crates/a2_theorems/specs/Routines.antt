-- A routine given as its instructions and entered with any memory, and its effect. This project's own.
use Rattle.std.specs.Prelude.{◌≡◌, ◌≤◌, ◌<◌, ℕ, ◌+◌, ◌*◌, Bool, false, List, [], ◌∷◌, ◌++◌, ◌==◌, if◌then◌else◌, Option, Some, None}
use Rattle.a2_opcode.specs.declared.Instr.{Instr}
use Rattle.a2_opcode.specs.declared.Mnemonic.{Mnemonic}
use Rattle.a2_opcode.specs.declared.Mode.{Mode}
use Rattle.a2_opcode.specs.Table.{length_of}
use Rattle.a2_page.specs.Cells.{numbers_from}
use Rattle.a2_bus.specs.Memory.{Memory, ram_byte}
use Rattle.a2_effect.specs.Registers.{registers_at}
use Rattle.a2_services.specs.World.{World}
use Rattle.a2_machine.specs.declared.causes.Cause.TheVariants.{Returned}
use Rattle.a2_machine.specs.Meaning.{Code, IsEnd, statements}

-- an instruction, with its operand's value: an address, a byte, or, for a branch, the target address
abbrev pub op : Mnemonic → Mode → ℕ → Instr
op mnemonic mode value = record { mnemonic = mnemonic; mode = mode; value = value }

-- the instruction that begins at an address, in a routine that begins at another address
abbrev pub listed_at : ℕ → List Instr → ℕ → Option Instr
listed_at here [] address = None
listed_at here (i ∷ rest) address = if here == address then Some i else listed_at (here + length_of i.mode) rest address

-- the addresses of its bytes
abbrev pub code_addresses : ℕ → List Instr → List ℕ
code_addresses here [] = []
code_addresses here (i ∷ rest) = numbers_from here (length_of i.mode) ++ code_addresses (here + length_of i.mode) rest

-- the code of a routine, whose bytes are protected
abbrev pub routine : ℕ → List Instr → Code
routine org listing = statements (listed_at org listing) (code_addresses org listing)

-- the world in which a routine is entered: with this memory, and registers as at the start
abbrev pub entered : ℕ → Memory → World
entered org memory = record { registers = registers_at org; memory = memory; cycles = 0 }

-- the last two bytes of the stack make an RTS return to $FF69, as at the start
abbrev pub Returns : Memory → Type 0
Returns memory = (ram_byte memory 0x1FE ≡ 0x68) × (ram_byte memory 0x1FF ≡ 0xFF)

-- every byte of RAM is less than 256
abbrev pub HasBytes : Memory → Type 0
HasBytes memory = (a : ℕ) → ram_byte memory a < 256

-- the 16-bit word at an address, low byte first
abbrev pub word : Memory → ℕ → ℕ
word memory at = ram_byte memory at + 256 * ram_byte memory (at + 1)

-- every byte of RAM except those at these addresses is unchanged, and so are the devices
pub record Keeps (memory : Memory) (changed : ℕ → Bool) (last : World) : Type 0 where
  pub bytes : (a : ℕ) → changed a ≡ false → ram_byte last.memory a ≡ ram_byte memory a
  pub devices : last.memory.devices ≡ memory.devices

-- Entered with this memory, the routine ends with RETURNED after this many steps and cycles, with every limit that
-- allows these steps. `Q` holds in its last world.
abbrev pub Does : ℕ → List Instr → Memory → ℕ → ℕ → (World → Type 0) → Type 0
Does org listing memory steps cycles Q =
    (limit : ℕ) → steps ≤ limit
    → (last : World) × IsEnd (routine org listing) (entered org memory) limit (record { world = last; steps = steps; cause = Returned })
    × (last.cycles ≡ cycles) × Q last
