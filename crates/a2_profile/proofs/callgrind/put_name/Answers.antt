use Rattle.std.proofs.lemmas.List.{at_drop_all}
use Rattle.a2_page.proofs.Sending.{left_all, left_more, left_broke_off}
use Rattle.a2_profile.specs.Callgrind.{name_line}
use Rattle.a2_profile.proofs.ItemLaws.{name_rest, name-next, left_last}
use Rattle.a2_profile.proofs.callgrind.put_name.Goals as goal

pub loop-byte-init : goal.loop-byte-init
unfolding name_line
loop-byte-init g c = left_all _ _

pub returns-in_err-put : goal.returns-in_err-put
returns-in_err-put g c =
    left_broke_off _ _ _ c.from_residual.result _ _ _ _ c.from_residual.ensures.0
    (name-next c.args.name.now c.loop-byte.byte-index _ c.shown_byte.result c.shown_byte.ensures c.loop-byte-test.true)
    c.loop-byte.invariant c.in_err-put.ensures

pub loop-byte-preserved : goal.loop-byte-preserved
loop-byte-preserved g c =
    left_more _ _ _ _ _ _ _
    (name-next c.args.name.now c.loop-byte.byte-index _ c.shown_byte.result c.shown_byte.ensures c.loop-byte-test.true)
    c.loop-byte.invariant c.in_ok-put.ensures

pub returns : goal.returns
returns g c =
    left_last _ _ _ c.put-2.result _ _ _ (at_drop_all name_rest c.args.name.now c.loop-byte.byte-index c.loop-byte-test.false) c.loop-byte.invariant
    c.put-2.ensures
