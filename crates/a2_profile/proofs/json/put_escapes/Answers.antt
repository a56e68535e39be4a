use Rattle.a2_page.proofs.Sending.{left_more, left_broke_off}
use Rattle.a2_profile.proofs.ItemLaws.{escapes-next}
use Rattle.a2_profile.proofs.json.put_escapes.Goals as goal

pub returns-in_err-put : goal.returns-in_err-put
returns-in_err-put g c =
    left_broke_off _ _ _ c.from_residual.result _ _ _ _ c.from_residual.ensures.0
    (escapes-next c.args.text.now c.loop-byte.byte-index _ c.loop-byte-test.true) c.loop-byte.invariant (rw (c.as_slice.ensures.value, c.json_escape.ensures) at c.in_err-put.ensures)

pub loop-byte-preserved : goal.loop-byte-preserved
loop-byte-preserved g c =
    left_more _ _ _ _ _ _ _ (escapes-next c.args.text.now c.loop-byte.byte-index _ c.loop-byte-test.true) c.loop-byte.invariant
    (rw (c.as_slice.ensures.value, c.json_escape.ensures) at c.in_ok-put.ensures)
