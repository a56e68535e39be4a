use Rattle.std.proofs.Common.{◌-◌}
use Rattle.std.specs.List.{flat_map}
use Rattle.a2_page.specs.Cells.{numbers_from}
use Rattle.a2_page.proofs.Sending.{IsLeft}
use Rattle.a2_tty.specs.Written.{cell_text, row_text}
use Rattle.a2_tty.proofs.cells.changes.put_row.Given as goal

-- the cells so far were written
abbrev pub invariant-loop-column : goal.invariant-loop-column
invariant-loop-column g l =
    IsLeft (g.W.Output.taker l.fn.writer) (g.W.Output.taker l.writer)
    (row_text g.C.Cells.shows l.change.before.now l.change.after.now l.change.colours l.columns l.row) (flat_map (cell_text g.C.Cells.shows l.change.before.now l.change.after.now l.change.colours l.row) (numbers_from l.column (l.columns - l.column)))
