use Rattle.std.proofs.Common.{length}
use Rattle.a2_tests.proofs.line_fault.wrong_setting.Given as goal

abbrev pub decreases-loop-named : goal.decreases-loop-named
decreases-loop-named l = length l.rest
