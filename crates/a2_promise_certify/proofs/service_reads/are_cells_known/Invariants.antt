use Rattle.std.proofs.Common.{IsTrue}
use Rattle.a2_promise_certify.specs.Walking.{known_now}
use Rattle.a2_promise_certify.proofs.Ranges.{HoldsBelow}
use Rattle.a2_promise_certify.proofs.service_reads.are_cells_known.Given as goal

abbrev pub invariant-loop-address : goal.invariant-loop-address
invariant-loop-address l = HoldsBelow (λ a. IsTrue (known_now l.known l.stored a)) l.first l.address
