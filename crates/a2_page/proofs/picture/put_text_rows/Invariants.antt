use Rattle.std.proofs.Common.{drop}
use Rattle.a2_page.specs.Text.{lines_of}
use Rattle.a2_page.specs.Picture.{page_grid}
use Rattle.a2_page.specs.Marks.{character}
use Rattle.a2_page.proofs.Sending.{IsLeft}
use Rattle.a2_page.proofs.picture.put_text_rows.Given as goal

abbrev pub invariant-loop-row : goal.invariant-loop-row
invariant-loop-row g l =
    IsLeft (g.W.Output.taker l.fn.writer) (g.W.Output.taker l.writer)
    (lines_of (character l.mark) (drop l.first (page_grid l.page))) (lines_of (character l.mark) (drop l.row (page_grid l.page)))
