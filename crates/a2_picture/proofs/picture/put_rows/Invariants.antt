use Rattle.std.proofs.Common.{◌≡◌, ◌-◌, ◌<◌}
use Rattle.a2_page.proofs.Sending.{IsLeft}
use Rattle.a2_picture.specs.Checksums.{first_sums, sums_after}
use Rattle.a2_picture.specs.Png.{blocks_text, row_text, lines, pieces, row_lines}
use Rattle.a2_picture.proofs.picture.put_rows.Given as goal

-- the rows so far were written, and the lines that are left give the sums of all
abbrev pub invariant-loop-y : goal.invariant-loop-y
invariant-loop-y g l = record {
  sent : IsLeft (g.W.Output.taker l.fn.writer) (g.W.Output.taker l.writer)
      (blocks_text l.ram l.switches) (pieces (row_text l.ram l.switches) l.y (192 - l.y));
  sums : sums_after l.sums (pieces (row_lines l.ram l.switches) l.y (192 - l.y))
      ≡ sums_after first_sums (lines l.ram l.switches);
  low : l.sums.low < 65521;
  high : l.sums.high < 65521;
}
