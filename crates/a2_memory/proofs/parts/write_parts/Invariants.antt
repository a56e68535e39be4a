use Rattle.std.proofs.Common.{◌≡◌, take}
use Rattle.a2_stream.specs.Stream.{Sends}
use Rattle.a2_bus.specs.View.{memory_of}
use Rattle.a2_monitor.specs.SessionStates.{state_of_session}
use Rattle.a2_memory.specs.Parts.{shown_parts}
use Rattle.a2_memory.proofs.parts.write_parts.Given as goal

-- the session's memory is the machine's, and the parts so far are written
abbrev pub invariant-loop-part : goal.invariant-loop-part
invariant-loop-part g l = record {
  memory : (state_of_session l.session).world.memory ≡ memory_of l.fn.machine.state.bus;
  sent : Sends (g.W.Output.taker l.fn.writer) (g.W.Output.taker l.writer) (shown_parts (memory_of l.fn.machine.state.bus) (take l.part-index l.parts));
}
