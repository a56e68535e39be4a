use Rattle.std.proofs.Common.{◌≡◌, drop, None}
use Rattle.a2_tests.specs.Cases.{replay_from}
use Rattle.a2_tests.proofs.cases.replay_in.Given as goal

abbrev pub invariant-loop-asked : goal.invariant-loop-asked
invariant-loop-asked l = replay_from l.found (drop l.asked-index l.lines) ≡ replay_from None l.lines
