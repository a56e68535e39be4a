use Rattle.std.proofs.Common.{length}
use Rattle.a2_check.proofs.line.is_among.Given as goal

-- each turn removes one word
abbrev pub decreases-loop-first : goal.decreases-loop-first
decreases-loop-first l = length l.rest
