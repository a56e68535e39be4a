use Rattle.std.proofs.Common.{◌≡◌, ◌≤◌, ◌<◌, ℕ, false}
use Rattle.a2_history.specs.Courses.{world_on}
use Rattle.a2_history.specs.Going.{IsOn, AreOn}
use Rattle.a2_history.proofs.history.run_one_by_one.Given as goal

-- All steps so far were executed, and nothing was seen after them.
abbrev pub invariant-loop : goal.invariant-loop
invariant-loop g l = record {
  on : IsOn l.course l.machine.state;
  guard : l.machine.state.guard ≡ l.course.origin.guard;
  kept : AreOn l.course l.checkpoints;
  steps : l.machine.state.steps ≡ l.counter;
  further : l.fn.machine.state.steps ≤ l.counter;
  passed : (k : ℕ) → l.fn.machine.state.steps < k → k ≤ l.counter → g.S.SearchTarget.is_found_in l.sight (world_on l.course k) ≡ false;
}
