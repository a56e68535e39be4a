use Rattle.std.proofs.Common.{drop}
use Rattle.a2_stream.specs.Stream.{Sends}
use Rattle.a2_trace.specs.Calls.{left_rows}
use Rattle.a2_trace.proofs.calls.put_left.Given as goal

-- the rows of the routines so far were written
abbrev pub invariant-loop-depth : goal.invariant-loop-depth
invariant-loop-depth g l =
    Sends (g.W.Output.taker l.fn.writer) (g.W.Output.taker l.writer)
    (left_rows l.s l.program l.machine.state.steps l.machine.state.cycles l.depth (drop l.depth l.all))
