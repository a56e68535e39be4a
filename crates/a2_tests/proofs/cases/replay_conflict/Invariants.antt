use Rattle.std.proofs.Common.{◌≡◌, drop, find}
use Rattle.a2_tests.specs.Cases.{is_ruled_out}
use Rattle.a2_tests.proofs.cases.replay_conflict.Given as goal

abbrev pub invariant-loop-asked : goal.invariant-loop-asked
invariant-loop-asked l = find is_ruled_out (drop l.asked-index l.lines) ≡ find is_ruled_out l.lines
