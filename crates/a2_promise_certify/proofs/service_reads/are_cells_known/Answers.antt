use Rattle.a2_promise_certify.specs.Walking.{known_now}
use Rattle.a2_promise_certify.proofs.Ranges.{knows_cells}
use Rattle.a2_promise_certify.proofs.service_reads.are_cells_known.Goals as goal

pub returns : goal.returns
returns c = λ _.
    knows_cells (known_now c.args.known.now c.args.stored.now) c.args.first c.args.count c.loop-address.address
    c.loop-address-test.false c.loop-address.invariant
