use Rattle.std.proofs.Common.{◌≡◌, ◌-◌, ◌≤◌, subst, arith}
use Rattle.std.specs.List.{flat_map}
use Rattle.a2_page.specs.Cells.{numbers_from}
use Rattle.a2_page.proofs.Sending.{IsLeft, left_all, left_more, left_none, left_broke_off}
use Rattle.a2_tty.specs.Written.{row_text, changes_text}
use Rattle.a2_tty.proofs.Numbered.{left_before, left_nothing}
use Rattle.a2_tty.proofs.cells.changes.put_change.Goals as goal

pub loop-row-init : goal.loop-row-init
unfolding changes_text
loop-row-init g c =
    let all : c.args.size.rows ≡ c.args.size.rows - 0 = omega arith in
    let taker = g.W.Output.taker c.args.writer.now in
    subst (λ n. IsLeft taker taker (changes_text g.C.Cells.shows c.args.change.now.before.now c.args.change.now.after.now c.args.change.now.colours c.args.size.rows c.args.size.columns) (flat_map (row_text g.C.Cells.shows c.args.change.now.before.now c.args.change.now.after.now c.args.change.now.colours c.args.size.columns) (numbers_from 0 n))) all (left_all _ _)

pub returns-in_err-put_row : goal.returns-in_err-put_row
returns-in_err-put_row g c =
    left_broke_off _ _ _ c.from_residual.result _ _ _ _ c.from_residual.ensures.0
    (left_before (row_text g.C.Cells.shows c.args.change.now.before.now c.args.change.now.after.now c.args.change.now.colours c.args.size.columns) c.args.size.rows c.loop-row.row c.loop-row-test.true)
    c.loop-row.invariant c.in_err-put_row.ensures

pub loop-row-preserved : goal.loop-row-preserved
loop-row-preserved g c =
    left_more _ _ _ _ _ _ _
    (left_before (row_text g.C.Cells.shows c.args.change.now.before.now c.args.change.now.after.now c.args.change.now.colours c.args.size.columns) c.args.size.rows c.loop-row.row c.loop-row-test.true)
    c.loop-row.invariant c.in_ok-put_row.ensures

pub returns : goal.returns
returns g c =
    let all : c.args.size.rows ≤ c.loop-row.row = omega (arith, c.loop-row-test.false) in
    left_none _ _ _ _ (left_nothing (row_text g.C.Cells.shows c.args.change.now.before.now c.args.change.now.after.now c.args.change.now.colours c.args.size.columns) c.args.size.rows c.loop-row.row all) c.loop-row.invariant
