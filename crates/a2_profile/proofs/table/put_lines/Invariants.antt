use Rattle.std.proofs.Common.{◌≡◌, ◌+◌, map, drop}
use Rattle.a2_page.proofs.Sending.{IsLeft}
use Rattle.a2_profile.specs.Table.{line_rows}
use Rattle.a2_profile.proofs.table.put_lines.Given as goal

-- the rows of the lines so far were written
abbrev pub invariant-loop-text : goal.invariant-loop-text
invariant-loop-text g l = record {
  counted : l.number ≡ l.text-index + 1;
  left : IsLeft (g.W.Output.taker l.fn.writer) (g.W.Output.taker l.writer)
      (line_rows l.profile l.statements 1 (map (λ x. x.now) l.texts)) (line_rows l.profile l.statements l.number (drop l.text-index (map (λ x. x.now) l.texts)));
}
