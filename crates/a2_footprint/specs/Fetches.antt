-- The bytes from which an instruction is fetched. This project's own.
use Rattle.std.specs.Prelude.{◌≡◌, ℕ, zero, suc, ◌+◌, ◌-◌, ◌%◌, Bool, List, [], ◌∷◌, Option, Some, None}
use Rattle.a2_opcode.specs.Table.{row_of, length_of}
use Rattle.a2_bus.specs.Memory.{Memory, peek}
use Rattle.a2_services.specs.World.{World}
use Rattle.a2_services.specs.Services.{service_at}
use Rattle.a2_machine.specs.Meaning.{stuck}
use Rattle.a2_machine.specs.ByteRun.{Guard, bytes}
use Rattle.a2_footprint.specs.Reads.{AgreeOn, Knows}
use Rattle.a2_footprint.specs.Runs.{StepReads, step_reads}

-- the addresses of this many bytes, with wrap at the end of the address space
abbrev pub addresses_from : ℕ → ℕ → List ℕ
addresses_from at zero = []
addresses_from at (suc count) = (at % 65536) ∷ addresses_from (suc at) count

-- the addresses of the operand after an opcode, if the opcode is documented
abbrev pub operand_addresses : ℕ → Option ℕ → List ℕ
operand_addresses pc None = []
operand_addresses pc (Some opcode) = elim (row_of opcode) [ None ↦ [] | Some row ↦ addresses_from (pc + 1) (length_of row.mode - 1) ]

-- the addresses of the instruction at an address
unfoldable pub fetch_reads : Memory → ℕ → List ℕ
fetch_reads memory pc = pc ∷ operand_addresses pc (peek memory pc)

-- memories that agree in the bytes of an instruction have the same instruction there, with any guard or none. So for a
-- step of the code that the machine runs, it is enough that these bytes are known.
abbrev pub FetchesDependOnReads : Type 0
FetchesDependOnReads =
    (guard : Option Guard) (known : ℕ → Bool) (m n : Memory) (pc : ℕ) → AgreeOn known m n → Knows known (fetch_reads m pc)
    → (bytes guard).instruction_at n pc ≡ (bytes guard).instruction_at m pc

-- a step by code in memory reads only known bytes, if the bytes of its instruction and the bytes that the instruction
-- reads are known
abbrev pub StepsByBytesRead : Type 0
StepsByBytesRead =
    (guard : Option Guard) (known : ℕ → Bool) (world : World)
    → stuck (bytes guard) world ≡ None → service_at world.registers.pc ≡ None
    → Knows known (fetch_reads world.memory world.registers.pc) → Knows known (step_reads (bytes guard) world)
    → StepReads (bytes guard) known world
