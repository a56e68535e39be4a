use Rattle.std.proofs.Common.{◌-◌, arith}
use Rattle.a2_page.proofs.Sending.{left_all, left_more, left_none, left_broke_off}
use Rattle.a2_profile.proofs.RowLaws.{rows-next, rows-over}
use Rattle.a2_profile.proofs.addresses.put_each.Goals as goal

pub loop-address-init : goal.loop-address-init
loop-address-init g c = left_all _ _

pub returns : goal.returns
returns g c =
    left_none _ _ _ _
    (rows-over (g.T.ByAddress.text c.args.texts.now) c.loop-address.address (65536 - c.loop-address.address) (omega (arith, c.loop-address-test.false)))
    c.loop-address.invariant

pub returns-in_err-put : goal.returns-in_err-put
returns-in_err-put g c =
    left_broke_off _ _ _ c.from_residual.result _ _ _ _ c.from_residual.ensures.0
    (rows-next (g.T.ByAddress.text c.args.texts.now) c.loop-address.address 65536 (omega (arith, c.loop-address-test.true)))
    c.loop-address.invariant c.in_err-put.ensures

pub loop-address-preserved : goal.loop-address-preserved
loop-address-preserved g c =
    left_more _ _ _ _ _ _ _
    (rows-next (g.T.ByAddress.text c.args.texts.now) c.loop-address.address 65536 (omega (arith, c.loop-address-test.true)))
    c.loop-address.invariant c.in_ok-put.ensures
