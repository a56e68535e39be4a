use Rattle.std.proofs.Common.{take}
use Rattle.a2_tests.specs.Judging.{AreVerdicts}
use Rattle.a2_tests.proofs.judge.judge_cases.Given as goal

-- the verdicts so far are correct
abbrev pub invariant-loop-case : goal.invariant-loop-case
invariant-loop-case g l = AreVerdicts l.source l.program (take l.case-index l.cases) l.verdicts.items
