use Rattle.std.proofs.Common.{take}
use Rattle.a2_tests.specs.Judging.{LinesType}
use Rattle.a2_tests.proofs.judge.typed_in.Given as goal

-- the keys so far are those of the lines so far
abbrev pub invariant-loop-asked : goal.invariant-loop-asked
invariant-loop-asked g l = LinesType (take l.asked-index l.lines) l.log
