use Rattle.std.proofs.Common.{◌≡◌, drop}
use Rattle.std.specs.List.{list_any}
use Rattle.a2_tests.specs.Cases.{says_stop}
use Rattle.a2_tests.proofs.cases.says_stop.Given as goal

abbrev pub invariant-loop-asked : goal.invariant-loop-asked
invariant-loop-asked l = list_any says_stop (drop l.asked-index l.lines) ≡ list_any says_stop l.lines
