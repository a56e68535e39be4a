use Rattle.std.proofs.Common.{length}
use Rattle.a2_promise_try.proofs.failure_machine.+lay_values.Given as goal

abbrev pub decreases-lay_values : goal.decreases-lay_values
decreases-lay_values l = length l.inputs.now
