use Rattle.std.proofs.Common.{take, map}
use Rattle.a2_tests.specs.Cases.{AreLines}
use Rattle.a2_tests.proofs.cases.lines_of.Given as goal

abbrev pub invariant-loop-index : goal.invariant-loop-index
invariant-loop-index g l = AreLines 1 (map (λ x. x.now) (take l.index l.texts)) l.lines.items
