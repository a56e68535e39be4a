use Rattle.std.proofs.Common.{◌≡◌, ◌<◌, ◌≤◌, ℕ, drop}
use Rattle.a2_services.specs.World.{World}
use Rattle.a2_history.specs.Courses.{with_logged}
use Rattle.a2_history.proofs.course.next_logged_position.Given as goal

-- None of the entries so far was made between the two positions.
abbrev pub invariant-loop-logged : goal.invariant-loop-logged
invariant-loop-logged l = record {
  ahead : l.from < l.quiet;
  within : l.quiet ≤ l.end;
  quiet : (k : ℕ) → l.from < k → k < l.quiet → (w : World) → with_logged l.log k w ≡ with_logged (drop l.logged-index l.log) k w;
}
