use Rattle.std.proofs.Common.{◌≡◌, length}
use Rattle.a2_tests.specs.Rows.{has_styled}
use Rattle.a2_tests.proofs.rows.has_styled.Given as goal

abbrev pub invariant-loop-rest : goal.invariant-loop-rest
invariant-loop-rest l = has_styled l.attribute l.part l.shown l.rest ≡ has_styled l.attribute l.part l.marks l.text

abbrev pub decreases-loop-rest : goal.decreases-loop-rest
decreases-loop-rest l = length l.rest
