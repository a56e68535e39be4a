use Rattle.a2_page.proofs.Sending.{left_more, left_broke_off}
use Rattle.a2_text.specs.Digits.{hex_pair}
use Rattle.a2_film.proofs.Parts.{pieces-next}
use Rattle.a2_film.proofs.texts.put_digits.Goals as goal

pub returns-in_err-put : goal.returns-in_err-put
returns-in_err-put g c =
    left_broke_off _ _ _ c.from_residual.result _ _ _ _ c.from_residual.ensures.0
    (pieces-next (λ b. hex_pair b) c.args.bytes.now c.loop-byte.byte-index 0 c.loop-byte-test.true)
    c.loop-byte.invariant (rw c.hex_pair.ensures at c.in_err-put.ensures)

pub loop-byte-preserved : goal.loop-byte-preserved
loop-byte-preserved g c =
    left_more _ _ _ _ _ _ _
    (pieces-next (λ b. hex_pair b) c.args.bytes.now c.loop-byte.byte-index 0 c.loop-byte-test.true)
    c.loop-byte.invariant (rw c.hex_pair.ensures at c.in_ok-put.ensures)
