use Rattle.a2_profile.specs.Totals.{nothing}
use Rattle.a2_profile.specs.Room.{joined_totals}
use Rattle.a2_profile.proofs.Joining.{IsJoining}
use Rattle.a2_profile.proofs.joined.join_totals.Given as goal

-- the totals so far are joined
abbrev pub invariant-loop-index : goal.invariant-loop-index
invariant-loop-index l = IsJoining joined_totals nothing l.fn.totals l.others l.index l.totals
