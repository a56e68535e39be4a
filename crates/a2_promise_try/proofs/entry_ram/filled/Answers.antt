use Rattle.std.proofs.Common.{arith}
use Rattle.a2_hex.specs.Images.{held}
use Rattle.a2_promise_try.proofs.Filling.{filled_none, filled_next, filled_all}
use Rattle.a2_promise_try.proofs.entry_ram.filled.Goals as goal

pub loop-address-init : goal.loop-address-init
loop-address-init c = filled_none (held c.args.program.now) (held c.in-Ok.image)

pub loop-address-preserved : goal.loop-address-preserved
loop-address-preserved c =
    filled_next (held c.args.program.now) (held c.loop-address.image) (held c.lay_at.new.image) c.loop-address.address
    c.loop-address.invariant c.lay_at.ensures.here c.lay_at.ensures.elsewhere

pub returns : goal.returns
returns c =
    filled_all (held c.args.program.now) (held c.loop-address.image) c.loop-address.address
    (omega (arith, c.loop-address-test.false)) c.get-first.ensures.image c.loop-address.invariant
