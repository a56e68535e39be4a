use Rattle.std.proofs.Common.{◌≡◌, ◌-◌, ◌≤◌, subst, arith}
use Rattle.std.specs.List.{flat_map}
use Rattle.a2_page.specs.Cells.{numbers_from}
use Rattle.a2_page.proofs.Sending.{IsLeft, left_all, left_more, left_none, left_broke_off}
use Rattle.a2_tty.specs.Written.{cell_text, row_text}
use Rattle.a2_tty.proofs.Numbered.{left_before, left_nothing}
use Rattle.a2_tty.proofs.cells.changes.put_row.Goals as goal

pub loop-column-init : goal.loop-column-init
unfolding row_text
loop-column-init g c =
    let all : c.args.columns ≡ c.args.columns - 0 = omega arith in
    let taker = g.W.Output.taker c.args.writer.now in
    subst (λ n. IsLeft taker taker (row_text g.C.Cells.shows c.args.change.now.before.now c.args.change.now.after.now c.args.change.now.colours c.args.columns c.args.row) (flat_map (cell_text g.C.Cells.shows c.args.change.now.before.now c.args.change.now.after.now c.args.change.now.colours c.args.row) (numbers_from 0 n))) all (left_all _ _)

pub returns-in_err-put_cell : goal.returns-in_err-put_cell
returns-in_err-put_cell g c =
    left_broke_off _ _ _ c.from_residual.result _ _ _ _ c.from_residual.ensures.0
    (left_before (cell_text g.C.Cells.shows c.args.change.now.before.now c.args.change.now.after.now c.args.change.now.colours c.args.row) c.args.columns c.loop-column.column c.loop-column-test.true)
    c.loop-column.invariant c.in_err-put_cell.ensures

pub loop-column-preserved : goal.loop-column-preserved
loop-column-preserved g c =
    left_more _ _ _ _ _ _ _
    (left_before (cell_text g.C.Cells.shows c.args.change.now.before.now c.args.change.now.after.now c.args.change.now.colours c.args.row) c.args.columns c.loop-column.column c.loop-column-test.true)
    c.loop-column.invariant c.in_ok-put_cell.ensures

pub returns : goal.returns
returns g c =
    let all : c.args.columns ≤ c.loop-column.column = omega (arith, c.loop-column-test.false) in
    left_none _ _ _ _ (left_nothing (cell_text g.C.Cells.shows c.args.change.now.before.now c.args.change.now.after.now c.args.change.now.colours c.args.row) c.args.columns c.loop-column.column all) c.loop-column.invariant
