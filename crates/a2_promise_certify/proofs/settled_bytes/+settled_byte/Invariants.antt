use Rattle.std.proofs.Common.{length}
use Rattle.a2_promise_certify.proofs.settled_bytes.+settled_byte.Given as goal

abbrev pub decreases-settled_byte : goal.decreases-settled_byte
decreases-settled_byte l = length l.clauses.now
