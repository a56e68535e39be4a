use Rattle.std.proofs.Common.{ℕ, ◌<◌, ◌≤◌}
use Rattle.a2_history.specs.Spacing.{most_kept}
use Rattle.a2_history.proofs.spacing.width_of.Given as goal

-- Every larger width keeps too many.
abbrev pub invariant-loop-width : goal.invariant-loop-width
invariant-loop-width l = record {
  within : l.width ≤ 101;
  wider : (w : ℕ) → l.width < w → w ≤ 101 → l.most < most_kept w l.now;
}

abbrev pub decreases-loop-width : goal.decreases-loop-width
decreases-loop-width l = l.width
