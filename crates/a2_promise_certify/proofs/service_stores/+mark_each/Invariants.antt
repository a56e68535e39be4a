use Rattle.std.proofs.Common.{length}
use Rattle.a2_promise_certify.proofs.service_stores.+mark_each.Given as goal

abbrev pub decreases-mark_each : goal.decreases-mark_each
decreases-mark_each l = length l.addresses.now
