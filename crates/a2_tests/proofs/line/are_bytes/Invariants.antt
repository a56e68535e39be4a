use Rattle.std.proofs.Common.{length}
use Rattle.a2_tests.proofs.line.are_bytes.Given as goal

abbrev pub decreases-loop-word : goal.decreases-loop-word
decreases-loop-word l = length l.rest
