use Rattle.std.proofs.Common.{◌≡◌, ◌≤◌, None}
use Rattle.a2_history.specs.Going.{IsNewest}
use Rattle.a2_history.proofs.history.search_back.Given as goal

-- Nothing is seen from `start` on.
abbrev pub invariant-loop-following : goal.invariant-loop-following
invariant-loop-following g l = record {
  within : l.start ≤ l.end;
  none : IsNewest (g.S.SearchTarget.is_found_in l.sight) l.course l.start l.end None;
  guard : l.scout.state.guard ≡ l.fn.scout.state.guard;
}
