use Rattle.std.proofs.Common.{length}
use Rattle.a2_import.proofs.rules.is_among.Given as goal

-- one word fewer
abbrev pub decreases-loop-first : goal.decreases-loop-first
decreases-loop-first l = length l.rest
