use Rattle.a2_page.proofs.Sending.{left_more, left_broke_off}
use Rattle.a2_tests.specs.Pages.{markup_byte}
use Rattle.a2_tests.proofs.Plain.{pieces-next}
use Rattle.a2_tests.proofs.markup.put_markup.Goals as goal

pub returns-in_err-put : goal.returns-in_err-put
returns-in_err-put g c =
    left_broke_off _ _ _ c.from_residual.result _ _ _ _ c.from_residual.ensures.0
    (pieces-next (markup_byte c.args.has_lines c.args.is_utf8) c.args.text.now c.loop-c.c-index 0 c.loop-c-test.true)
    c.loop-c.invariant (rw c.spelt.ensures at c.in_err-put.ensures)

pub loop-c-preserved : goal.loop-c-preserved
loop-c-preserved g c =
    left_more _ _ _ _ _ _ _
    (pieces-next (markup_byte c.args.has_lines c.args.is_utf8) c.args.text.now c.loop-c.c-index 0 c.loop-c-test.true)
    c.loop-c.invariant (rw c.spelt.ensures at c.in_ok-put.ensures)
