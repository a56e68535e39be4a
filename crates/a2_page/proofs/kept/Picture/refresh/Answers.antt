use Rattle.std.specs.Prelude.{◌≡◌}
use Rattle.std.proofs.Common.{arith}
use Rattle.a2_page.proofs.PageRows.{page_grid-is_grid}
use Rattle.a2_page.proofs.KeptRows.{reached-taken, reached-left, reached-all}
use Rattle.a2_page.proofs.kept.Picture.refresh.Goals.{then-self-from, else-self-from}
use Rattle.a2_page.proofs.kept.Picture.refresh.Goals as goal

pub loop-row-preserved : goal.loop-row-preserved
loop-row-preserved c = elim c.if-self-from.branch [
  | then-self-from w ↦ rw w.self-inside-is (record {
    marks = c.loop-row.invariant.marks;
    rows =
        reached-taken c.loop-row.row c.self.inside.marks _ _ _ (page_grid-is_grid c.loop-row.self-inside.page).height c.loop-row-test.true
        w.take_row.ensures c.loop-row.invariant.rows;
  })
  | else-self-from w ↦ rw w.self-inside-is (record {
    marks = c.loop-row.invariant.marks;
    rows = reached-left c.loop-row.row c.self.inside.marks _ _ (rw (c.from.ensures, c.loop-row.invariant.marks) at w.if-self-from.false) c.loop-row.invariant.rows;
  })
]

pub returns-clause-taken : goal.returns-clause-taken
returns-clause-taken c =
    let all : c.loop-row.row ≡ 24 = omega (arith, c.loop-row-test.false, c.loop-row.auto.row-end) in
    rw (reached-all c.self.inside.marks c.loop-row.self-inside.page c.shown_page-page.result.now (rw all at c.loop-row.invariant.rows), c.shown_page-page.ensures)
