use Rattle.std.proofs.Common.{◌≡◌, ◌++◌, length, map}
use Rattle.a2_tests.specs.Cases.{case_of, cases_from}
use Rattle.a2_tests.proofs.cases.cases_of.Given as goal

-- the cases so far, and those of the lines that are left, are all cases
abbrev pub invariant-loop-rest : goal.invariant-loop-rest
invariant-loop-rest g l = map case_of l.cases.items ++ cases_from l.head l.rest ≡ cases_from l.head l.lines

abbrev pub decreases-loop-rest : goal.decreases-loop-rest
decreases-loop-rest g l = length l.rest
