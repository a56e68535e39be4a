use Rattle.std.proofs.Common.{◌-◌}
use Rattle.std.specs.List.{flat_map}
use Rattle.a2_page.specs.Cells.{numbers_from}
use Rattle.a2_page.proofs.Sending.{IsLeft}
use Rattle.a2_tty.specs.Written.{row_text, changes_text}
use Rattle.a2_tty.proofs.cells.changes.put_change.Given as goal

-- the rows so far were written
abbrev pub invariant-loop-row : goal.invariant-loop-row
invariant-loop-row g l =
    IsLeft (g.W.Output.taker l.fn.writer) (g.W.Output.taker l.writer)
    (changes_text g.C.Cells.shows l.change.before.now l.change.after.now l.change.colours l.size.rows l.size.columns) (flat_map (row_text g.C.Cells.shows l.change.before.now l.change.after.now l.change.colours l.size.columns) (numbers_from l.row (l.size.rows - l.row)))
