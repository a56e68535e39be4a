use Rattle.std.proofs.Common.{◌≡◌, drop}
use Rattle.a2_tests.specs.Judging.{limit_from}
use Rattle.a2_tests.proofs.judge.limit_in.Given as goal

abbrev pub invariant-loop-asked : goal.invariant-loop-asked
invariant-loop-asked l = limit_from l.limit (drop l.asked-index l.lines) ≡ limit_from l.before l.lines
