-- What an instruction reads on a board. This project's own.
use Rattle.std.specs.Prelude.{◌≡◌, ℕ, length}
use Rattle.a2_opcode.specs.declared.Row.{Row}
use Rattle.a2_bus.specs.BusState.{BusState, board_access}
use Rattle.a2_bus.specs.Memory.{Memory, memory_access, ram_end}
use Rattle.a2_bus.specs.View.{memory_of}
use Rattle.a2_effect.specs.Instruction.{State}
use Rattle.a2_footprint.specs.InstructionReads.{reads_of}

-- the same processor with the memory that a board holds
abbrev pub over_memory : State BusState → State Memory
over_memory state = record { registers = state.registers; memory = memory_of state.memory; cycles = state.cycles }

-- an instruction reads the same addresses on a board and on the memory that the board holds
abbrev pub BoardsReadAsTheirMemory : Type 0
BoardsReadAsTheirMemory =
    (row : Row) (value : ℕ) (state : State BusState) → length state.memory.bytes ≡ ram_end
    → reads_of board_access row value state ≡ reads_of memory_access row value (over_memory state)
