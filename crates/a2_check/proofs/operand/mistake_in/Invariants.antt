use Rattle.std.proofs.Common.{length}
use Rattle.a2_check.proofs.operand.mistake_in.Given as goal

-- each turn removes one word
abbrev pub decreases-loop-rest : goal.decreases-loop-rest
decreases-loop-rest l = length l.rest
