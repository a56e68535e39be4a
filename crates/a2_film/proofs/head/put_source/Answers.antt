use Rattle.a2_page.proofs.Sending.{left_more, left_broke_off}
use Rattle.a2_film.specs.Rows.{source_line}
use Rattle.a2_film.proofs.Parts.{texts-next}
use Rattle.a2_film.proofs.head.put_source.Goals as goal

pub returns-in_err-put_source_line : goal.returns-in_err-put_source_line
returns-in_err-put_source_line g c =
    left_broke_off _ _ _ c.from_residual.result _ _ _ _ c.from_residual.ensures.0
    (texts-next (λ t. source_line t) c.args.texts.now c.loop-text.text-index _ c.loop-text-test.true)
    c.loop-text.invariant c.in_err-put_source_line.ensures

pub loop-text-preserved : goal.loop-text-preserved
loop-text-preserved g c =
    left_more _ _ _ _ _ _ _
    (texts-next (λ t. source_line t) c.args.texts.now c.loop-text.text-index _ c.loop-text-test.true)
    c.loop-text.invariant c.in_ok-put_source_line.ensures
