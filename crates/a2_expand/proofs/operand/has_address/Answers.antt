use Rattle.std.proofs.Common.{arith}
use Rattle.a2_expand.proofs.Known.{any_later}
use Rattle.a2_expand.proofs.operand.has_address.Goals as goal

pub loop-placed-preserved : goal.loop-placed-preserved
loop-placed-preserved g c = λ later.
    c.loop-placed.invariant (any_later c.args.constants.now c.args.tokens.now c.loop-placed.placed-index (omega arith) later)
