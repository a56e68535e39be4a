use Rattle.std.specs.Prelude.{◌≡◌, ◌-◌}
use Rattle.a2_stream.specs.Stream.{Sends}
use Rattle.a2_timed_keys.specs.Rerun.{end_of}
use Rattle.a2_trace.specs.Traced.{left_after, lines_of}
use Rattle.a2_trace.proofs.trace.trace_rest.Given as goal

-- the steps so far are executed, and their lines were written
abbrev pub invariant-loop-chosen : goal.invariant-loop-chosen
invariant-loop-chosen g l = record {
  run : l.rerun.run ≡ l.fn.rerun.run;
  left : l.left ≡ left_after l.choice l.fn.rerun.run l.rerun.steps;
  sent : Sends (g.W.Output.taker l.fn.writer) (g.W.Output.taker l.writer) (lines_of l.choice l.fn.rerun.run l.rerun.steps);
}

abbrev pub decreases-loop-chosen : goal.decreases-loop-chosen
decreases-loop-chosen g l = (end_of l.fn.rerun.run).steps - l.rerun.steps
