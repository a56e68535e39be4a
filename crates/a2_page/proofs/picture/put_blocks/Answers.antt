use Rattle.std.proofs.Common.{refl}
use Rattle.a2_page.proofs.Sending.{left_more, left_broke_off}
use Rattle.a2_page.proofs.PageRows.{block_rows-next}
use Rattle.a2_page.proofs.picture.put_blocks.Goals as goal

pub returns-in_err-put_line : goal.returns-in_err-put_line
returns-in_err-put_line g c =
    left_broke_off _ _ _ c.from_residual.result _ _ _ _ c.from_residual.ensures.0
    (block_rows-next c.args.page.now c.args.end c.loop-row.row c.cells_in_row-cells.result.now c.requires c.loop-row-test.true c.cells_in_row-cells.ensures.cells)
    c.loop-row.invariant c.in_err-put_line.ensures

pub returns-in_err-put_line-2 : goal.returns-in_err-put_line-2
returns-in_err-put_line-2 g c =
    left_broke_off _ _ _ c.from_residual-in_err-put_line-2.result _ _ _ _ c.from_residual-in_err-put_line-2.ensures.0 refl
    (left_more _ _ _ _ _ _ _
    (block_rows-next c.args.page.now c.args.end c.loop-row.row c.cells_in_row-cells.result.now c.requires c.loop-row-test.true c.cells_in_row-cells.ensures.cells)
    c.loop-row.invariant c.in_ok-put_line.ensures)
    c.in_err-put_line-2.ensures

pub loop-row-preserved : goal.loop-row-preserved
loop-row-preserved g c =
    left_more _ _ _ _ _ _ _ refl
    (left_more _ _ _ _ _ _ _
    (block_rows-next c.args.page.now c.args.end c.loop-row.row c.cells_in_row-cells.result.now c.requires c.loop-row-test.true c.cells_in_row-cells.ensures.cells)
    c.loop-row.invariant c.in_ok-put_line.ensures)
    c.in_ok-put_line-2.ensures
