use Rattle.std.proofs.Common.{length}
use Rattle.a2_promise_certify.proofs.settled_bytes.+settle.Given as goal

abbrev pub decreases-settle : goal.decreases-settle
decreases-settle l = length l.inputs.now
