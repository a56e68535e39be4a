use Rattle.std.proofs.Common.{◌≡◌, drop}
use Rattle.a2_machine.specs.State.{world_of_state}
use Rattle.a2_history.specs.Courses.{with_logged}
use Rattle.a2_history.proofs.course.act_logged.Given as goal

-- What remains leads to the same world as all of the log from the start.
abbrev pub invariant-loop-logged : goal.invariant-loop-logged
invariant-loop-logged g l = record {
  world : with_logged (drop l.logged-index l.log) l.machine.state.steps (world_of_state l.machine.state)
      ≡ with_logged l.log l.fn.machine.state.steps (world_of_state l.fn.machine.state);
  steps : l.machine.state.steps ≡ l.fn.machine.state.steps;
  guard : l.machine.state.guard ≡ l.fn.machine.state.guard;
}
