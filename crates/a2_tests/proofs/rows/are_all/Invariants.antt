use Rattle.std.proofs.Common.{◌≡◌, drop}
use Rattle.a2_tests.specs.Rows.{are_all}
use Rattle.a2_tests.proofs.rows.are_all.Given as goal

abbrev pub invariant-loop-shown : goal.invariant-loop-shown
invariant-loop-shown l = are_all l.attribute (drop l.shown-index l.marks) ≡ are_all l.attribute l.marks
