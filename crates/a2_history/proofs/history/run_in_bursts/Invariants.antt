use Rattle.std.proofs.Common.{◌≡◌, ◌-◌, ◌≤◌, ◌<◌, ℕ, false}
use Rattle.a2_history.specs.Courses.{world_on}
use Rattle.a2_history.specs.Going.{IsOn, AreOn}
use Rattle.a2_history.proofs.history.run_in_bursts.Given as goal

-- Nothing was seen after the steps so far.
abbrev pub invariant-loop-from : goal.invariant-loop-from
invariant-loop-from g l = record {
  on : IsOn l.course l.machine.state;
  guard : l.machine.state.guard ≡ l.course.origin.guard;
  kept : AreOn l.course l.checkpoints;
  steps : l.machine.state.steps ≡ l.from;
  further : l.fn.machine.state.steps ≤ l.from;
  within : l.from ≤ l.end;
  scout : l.scout.state.guard ≡ l.fn.scout.state.guard;
  stayed : IsOn l.course l.scout.state;
  following : l.scout.state.steps ≤ l.from;
  passed : (k : ℕ) → l.fn.machine.state.steps < k → k ≤ l.from → g.S.SearchTarget.is_found_in l.sight (world_on l.course k) ≡ false;
}

abbrev pub decreases-loop-from : goal.decreases-loop-from
decreases-loop-from g l = l.end - l.from
