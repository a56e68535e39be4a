use Rattle.std.proofs.Common.{◌≡◌, length, None}
use Rattle.a2_expand.specs.Larger.{has_larger_sign}
use Rattle.a2_expand.proofs.larger.has_larger_sign.Given as goal

-- the remaining bytes decide
abbrev pub invariant-loop-c : goal.invariant-loop-c
invariant-loop-c l = has_larger_sign l.commas l.quote l.last l.rest ≡ has_larger_sign l.commas None 0 l.operand

abbrev pub decreases-loop-c : goal.decreases-loop-c
decreases-loop-c l = length l.rest
