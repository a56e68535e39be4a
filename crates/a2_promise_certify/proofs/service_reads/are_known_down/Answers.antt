use Rattle.std.proofs.Common.{arith}
use Rattle.a2_footprint.specs.Services.{block_cell}
use Rattle.a2_promise_certify.specs.Walking.{known_now}
use Rattle.a2_promise_certify.proofs.Ranges.{knows_span}
use Rattle.a2_promise_certify.proofs.service_reads.are_known_down.Goals as goal

pub returns : goal.returns
returns c = λ _.
    knows_span (known_now c.args.known.now c.args.stored.now) (λ row. block_cell row c.args.column) c.args.first c.args.last c.loop-row.row
    (omega arith) (omega arith) c.loop-row.invariant
