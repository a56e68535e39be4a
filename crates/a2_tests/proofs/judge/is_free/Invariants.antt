use Rattle.std.proofs.Common.{◌≡◌, drop}
use Rattle.std.specs.List.{list_any}
use Rattle.a2_tests.specs.Judging.{says_free}
use Rattle.a2_tests.proofs.judge.is_free.Given as goal

abbrev pub invariant-loop-asked : goal.invariant-loop-asked
invariant-loop-asked l = list_any says_free (drop l.asked-index l.lines) ≡ list_any says_free l.lines
