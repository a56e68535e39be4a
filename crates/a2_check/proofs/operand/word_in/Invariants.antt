use Rattle.std.proofs.Common.{length}
use Rattle.a2_check.proofs.operand.word_in.Given as goal

-- each turn removes one word
abbrev pub decreases-loop-name : goal.decreases-loop-name
decreases-loop-name l = length l.rest
