-- What calls return that follow the routines of a run. No public clause cites this file.
use Rattle.std.specs.Prelude.{ℕ}
use Rattle.a2_machine.specs.State.{MachineState}
use Rattle.a2_trace.specs.declared.calls.Visit.{Visit}

-- the routine that the last step of a machine entered, by a JSR at an address before which the stack pointer was this
abbrev pub begun : ℕ → ℕ → MachineState → Visit
begun caller s state = record { caller = caller; begin = state.regs.pc; s = s; steps = state.steps; cycles = state.cycles }
