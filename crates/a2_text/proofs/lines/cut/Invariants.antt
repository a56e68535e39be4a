use Rattle.std.proofs.Common.{◌≡◌, length, map, ◌++◌}
use Rattle.a2_text.specs.Lines.{lines}
use Rattle.a2_text.proofs.lines.cut.Given as goal

abbrev pub invariant-loop-rest : goal.invariant-loop-rest
invariant-loop-rest g l = map (λ x. x.now) l.found.items ++ lines l.rest ≡ lines l.text

abbrev pub decreases-loop-rest : goal.decreases-loop-rest
decreases-loop-rest g l = length l.rest
