use Rattle.std.proofs.Common.{◌≡◌, ◌≤◌}
use Rattle.a2_history.specs.Going.{IsOn, IsNewest}
use Rattle.a2_history.proofs.course.Course.newest_seen.Given as goal

-- All steps so far were executed, and what was found is the latest among them.
abbrev pub invariant-loop-position : goal.invariant-loop-position
invariant-loop-position g l = record {
  on : IsOn l.self l.machine.state;
  steps : l.machine.state.steps ≡ l.position;
  guard : l.machine.state.guard ≡ l.fn.machine.state.guard;
  further : l.fn.machine.state.steps ≤ l.position;
  newest : IsNewest (g.S.SearchTarget.is_found_in l.sight) l.self l.fn.machine.state.steps l.position l.found;
}
