use Rattle.std.proofs.Common.{length}
use Rattle.a2_tests.proofs.line.are_settings.Given as goal

abbrev pub decreases-loop-rest : goal.decreases-loop-rest
decreases-loop-rest l = length l.rest
