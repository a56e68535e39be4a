use Rattle.std.proofs.Common.{IsTrue}
use Rattle.a2_footprint.specs.Services.{block_cell}
use Rattle.a2_promise_certify.specs.Walking.{known_now}
use Rattle.a2_promise_certify.proofs.Ranges.{HoldsBelow}
use Rattle.a2_promise_certify.proofs.service_reads.are_known_down.Given as goal

abbrev pub invariant-loop-row : goal.invariant-loop-row
invariant-loop-row l = HoldsBelow (λ row. IsTrue (known_now l.known l.stored (block_cell row l.column))) l.first l.row
