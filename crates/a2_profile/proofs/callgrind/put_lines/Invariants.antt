use Rattle.std.proofs.Common.{◌≡◌, ◌+◌, map, drop}
use Rattle.a2_page.proofs.Sending.{IsLeft}
use Rattle.a2_profile.specs.Callgrind.{line_costs, source_costs}
use Rattle.a2_profile.proofs.callgrind.put_lines.Given as goal

-- the function with the costs of the lines so far was written
abbrev pub invariant-loop-text : goal.invariant-loop-text
invariant-loop-text g l = record {
  counted : l.number ≡ l._text-index + 1;
  left : IsLeft (g.W.Output.taker l.fn.writer) (g.W.Output.taker l.writer) (source_costs l.profile l.statements (map (λ x. x.now) l.texts))
      (line_costs l.profile l.statements l.number (drop l._text-index (map (λ x. x.now) l.texts)));
}
