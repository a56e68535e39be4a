use Rattle.std.proofs.Common.{◌∙◌, sym, ap}
use Rattle.a2_tests.specs.Rows.{row_count}
use Rattle.a2_tests.proofs.RowLaws.{rows-step, within-row}
use Rattle.a2_tests.proofs.rows.rows_fit.Goals as goal

pub loop-text-preserved : goal.loop-text-preserved
loop-text-preserved c =
    let count = c.row_count-used.ensures ∙ ap row_count c.following-here.ensures in
    record {
      within = rw count (within-row c.args.lines.now c.loop-text.used c.loop-text.invariant.within);
      rest = sym (rows-step c.args.kind c.args.lines.now c.loop-text.used c.loop-text.text-index c.row_count-used.result c.args.shown.now _ c.loop-text-test.true
          (rw (c.first_row.ensures, c.following-here.ensures) at (sym c.fits.ensures ∙ c.if-not-fits.false)) count)
          ∙ c.loop-text.invariant.rest;
    }
