use Rattle.std.proofs.Common.{◌≡◌, ◌+◌, map, take, length}
use Rattle.a2_syntax.specs.Sources.{AreLines}
use Rattle.a2_syntax.proofs.parser.parse_lines.Given as goal

abbrev pub invariant-loop-text : goal.invariant-loop-text
invariant-loop-text g l = record {
  count : length l.parsed.items ≡ l.text-index;
  number : l.n ≡ l.text-index + 1;
  read : AreLines (map (λ x. x.now) (take l.text-index l.texts)) l.parsed.items;
}
