use Rattle.std.proofs.Common.{◌≡◌, drop, map}
use Rattle.std.specs.List.{list_all}
use Rattle.a2_tests.specs.Rows.{are_all}
use Rattle.a2_tests.proofs.rows.all_are.Given as goal

abbrev pub invariant-loop-shown : goal.invariant-loop-shown
invariant-loop-shown l = list_all (are_all l.attribute) (map (λ x. x.now) (drop l.shown-index l.marks)) ≡ list_all (are_all l.attribute) (map (λ x. x.now) l.marks)
