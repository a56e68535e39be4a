use Rattle.std.proofs.Common.{length}
use Rattle.a2_profile.specs.Walks.{SeesAlike}
use Rattle.a2_profile.proofs.walk.Walk.finish.Given as goal

-- what the walk shows is unchanged
abbrev pub invariant-loop-self : goal.invariant-loop-self
invariant-loop-self g l = SeesAlike l.fn.self l.self

abbrev pub decreases-loop-self : goal.decreases-loop-self
decreases-loop-self g l = length l.self.frames
