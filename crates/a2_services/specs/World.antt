-- The modelled Apple II as a whole.
use Rattle.std.specs.Prelude.{ℕ}
use Rattle.a2_bus.specs.BusState.{BusState}
use Rattle.a2_bus.specs.Memory.{Memory}
use Rattle.a2_bus.specs.View.{memory_of}
use Rattle.a2_effect.specs.Instruction.{State}
use Rattle.a2_effect.specs.Registers.{Registers}

-- registers, memory and cycles
abbrev pub World : Type 0
World = State Memory

-- the world that registers and a board represent, this many cycles after the start
abbrev pub world_of : Registers → BusState → ℕ → World
world_of registers bus cycles = record { registers = registers; memory = memory_of bus; cycles = cycles }
