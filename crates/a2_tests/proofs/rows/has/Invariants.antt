use Rattle.std.proofs.Common.{◌≡◌, length}
use Rattle.a2_tests.specs.Rows.{has}
use Rattle.a2_tests.proofs.rows.has.Given as goal

abbrev pub invariant-loop-rest : goal.invariant-loop-rest
invariant-loop-rest l = has l.part l.rest ≡ has l.part l.text

abbrev pub decreases-loop-rest : goal.decreases-loop-rest
decreases-loop-rest l = length l.rest
