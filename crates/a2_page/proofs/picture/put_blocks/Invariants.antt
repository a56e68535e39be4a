use Rattle.std.proofs.Common.{take, drop}
use Rattle.a2_page.specs.Text.{block_lines}
use Rattle.a2_page.specs.Picture.{page_grid}
use Rattle.a2_page.proofs.Sending.{IsLeft}
use Rattle.a2_page.proofs.picture.put_blocks.Given as goal

abbrev pub invariant-loop-row : goal.invariant-loop-row
invariant-loop-row g l =
    IsLeft (g.W.Output.taker l.fn.writer) (g.W.Output.taker l.writer)
    (block_lines (take l.fn.end (page_grid l.page))) (block_lines (drop l.row (take l.fn.end (page_grid l.page))))
