use Rattle.std.proofs.Common.{◌≡◌, ◌-◌, ◌≤◌}
use Rattle.a2_history.specs.Going.{IsOn}
use Rattle.a2_history.proofs.course.Course.bring.Given as goal

-- All steps so far were executed.
abbrev pub invariant-loop-from : goal.invariant-loop-from
invariant-loop-from g l = record {
  on : IsOn l.self l.machine.state;
  steps : l.machine.state.steps ≡ l.from;
  within : l.from ≤ l.position;
  guard : l.machine.state.guard ≡ l.fn.machine.state.guard;
}

abbrev pub decreases-loop-from : goal.decreases-loop-from
decreases-loop-from g l = l.position - l.from
