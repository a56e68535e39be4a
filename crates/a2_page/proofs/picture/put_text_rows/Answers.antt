use Rattle.a2_page.specs.Marks.{character}
use Rattle.a2_page.proofs.Sending.{left_more, left_none, left_broke_off}
use Rattle.a2_page.proofs.PageRows.{text_rows-next, text_rows-end}
use Rattle.a2_page.proofs.picture.put_text_rows.Goals as goal

pub returns-in_err-put_line : goal.returns-in_err-put_line
returns-in_err-put_line g c =
    rw (← c.first_text_row-first.ensures.value)
    (left_broke_off _ _ _ c.from_residual.result _ _ _ _ c.from_residual.ensures.0
    (text_rows-next (character c.args.mark) c.args.page.now c.loop-row.row c.cells_in_row.result.now c.loop-row-test.true c.cells_in_row.ensures.cells)
    c.loop-row.invariant c.in_err-put_line.ensures)

pub loop-row-preserved : goal.loop-row-preserved
loop-row-preserved g c =
    left_more _ _ _ _ _ _ _
    (text_rows-next (character c.args.mark) c.args.page.now c.loop-row.row c.cells_in_row.result.now c.loop-row-test.true c.cells_in_row.ensures.cells)
    c.loop-row.invariant c.in_ok-put_line.ensures

pub returns : goal.returns
returns g c =
    rw (← c.first_text_row-first.ensures.value)
    (left_none _ _ _ _ (text_rows-end (character c.args.mark) c.args.page.now c.loop-row.row c.loop-row-test.false) c.loop-row.invariant)
