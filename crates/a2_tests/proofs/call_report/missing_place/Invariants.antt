use Rattle.std.proofs.Common.{length}
use Rattle.a2_tests.proofs.call_report.missing_place.Given as goal

abbrev pub decreases-loop-setting : goal.decreases-loop-setting
decreases-loop-setting g l = length l.rest
