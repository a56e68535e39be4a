use Rattle.std.proofs.Common.{ℕ, ◌<◌}
use Rattle.a2_profile.specs.Totals.{totals_at}
use Rattle.a2_profile.specs.Room.{Fit}
use Rattle.a2_profile.proofs.joined.all_fit.Given as goal

-- the totals so far fit
abbrev pub invariant-loop-index : goal.invariant-loop-index
invariant-loop-index l = (r : ℕ) → r < l.index → Fit (totals_at l.totals r) (totals_at l.others r)
