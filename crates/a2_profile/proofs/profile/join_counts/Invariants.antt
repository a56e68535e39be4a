use Rattle.a2_profile.specs.Counts.{none, joined}
use Rattle.a2_profile.proofs.Joining.{IsJoining}
use Rattle.a2_profile.proofs.profile.join_counts.Given as goal

-- the counts so far are joined
abbrev pub invariant-loop-index : goal.invariant-loop-index
invariant-loop-index l = IsJoining joined none l.fn.counts l.others l.index l.counts
