use Rattle.std.proofs.Common.{◌≡◌, length}
use Rattle.a2_profile.specs.Walks.{left_below}
use Rattle.a2_profile.proofs.walk.Walk.leave.Given as goal

-- the walk after all routines are left is unchanged
abbrev pub invariant-loop-self : goal.invariant-loop-self
invariant-loop-self g l = left_below l.s l.self ≡ left_below l.s l.fn.self

abbrev pub decreases-loop-self : goal.decreases-loop-self
decreases-loop-self g l = length l.self.frames
