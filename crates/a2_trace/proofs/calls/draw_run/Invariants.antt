use Rattle.std.specs.Prelude.{◌≡◌, ◌-◌}
use Rattle.a2_timed_keys.specs.Rerun.{worlds_of, end_of}
use Rattle.a2_trace.proofs.Drawing.{IsDrawn}
use Rattle.a2_trace.proofs.calls.draw_run.Given as goal

-- the steps so far are executed, and their rows were written
abbrev pub invariant-loop-program : goal.invariant-loop-program
invariant-loop-program g l = record {
  run : l.rerun.run ≡ l.ended;
  drawn : IsDrawn l.program (worlds_of l.ended) (g.W.Output.taker l.fn.writer) (g.W.Output.taker l.writer) l.rerun.steps l.visits.items;
}

abbrev pub decreases-loop-program : goal.decreases-loop-program
decreases-loop-program g l = (end_of l.ended).steps - l.rerun.steps
