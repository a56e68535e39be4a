use Rattle.std.proofs.Common.{IsTrue}
use Rattle.a2_footprint.specs.Services.{block_cell}
use Rattle.a2_promise_certify.specs.Walking.{known_now}
use Rattle.a2_promise_certify.proofs.Ranges.{HoldsBelow}
use Rattle.a2_promise_certify.proofs.service_reads.are_known_across.Given as goal

abbrev pub invariant-loop-column : goal.invariant-loop-column
invariant-loop-column l = HoldsBelow (λ column. IsTrue (known_now l.known l.stored (block_cell l.row column))) l.first l.column
