use Rattle.std.proofs.Common.{length}
use Rattle.a2_tests.proofs.miss_report.trimmed.Given as goal

abbrev pub decreases-loop-rest : goal.decreases-loop-rest
decreases-loop-rest l = length l.rest
