use Rattle.std.proofs.Common.{◌≡◌}
use Rattle.a2_history.specs.Going.{IsOn}
use Rattle.a2_history.specs.Routines.{entered, IsNewestOutside}
use Rattle.a2_history.proofs.routines.routines_up_to.Given as goal

-- All steps so far were executed.
abbrev pub invariant-loop-position : goal.invariant-loop-position
invariant-loop-position g l = record {
  on : IsOn l.course l.scout.state;
  steps : l.scout.state.steps ≡ l.position;
  guard : l.scout.state.guard ≡ l.fn.scout.state.guard;
  entered : l.entries.items ≡ entered l.course l.position;
  outside : IsNewestOutside l.course l.most l.position l.outside;
}
