use Rattle.std.proofs.Common.{◌≡◌, ◌+◌, map, drop}
use Rattle.a2_page.proofs.Sending.{IsLeft}
use Rattle.a2_profile.specs.Json.{line_objects, lines_array}
use Rattle.a2_profile.proofs.ItemLaws.{following}
use Rattle.a2_profile.proofs.json.put_lines.Given as goal

-- the objects of the lines so far were written
abbrev pub invariant-loop-text : goal.invariant-loop-text
invariant-loop-text g l = record {
  counted : l.number ≡ l.text-index + 1;
  left : IsLeft (g.W.Output.taker l.fn.writer) (g.W.Output.taker l.writer) (lines_array l.profile l.statements (map (λ x. x.now) l.texts))
      (following l.front (line_objects l.profile l.statements l.number (drop l.text-index (map (λ x. x.now) l.texts))));
}
