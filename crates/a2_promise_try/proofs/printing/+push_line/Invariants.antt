use Rattle.std.proofs.Common.{length}
use Rattle.a2_promise_try.proofs.printing.+push_line.Given as goal

abbrev pub decreases-push_line : goal.decreases-push_line
decreases-push_line l = length l.keys.now
