use Rattle.std.proofs.Common.{length}
use Rattle.a2_promise.proofs.valuing.+visited.Given as goal

abbrev pub decreases-visited : goal.decreases-visited
decreases-visited g l = length l.visits.now
