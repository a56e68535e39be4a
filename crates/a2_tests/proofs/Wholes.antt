-- If no line begins a case, all lines are a single case.
use Rattle.std.specs.Prelude.{◌≡◌, ◌<◌, List, [], ◌∷◌, ◌++◌, length, map}
use Rattle.std.proofs.Common.{ap, arith, sym}
use Rattle.a2_tests.specs.declared.cases.Case.{Case}
use Rattle.a2_tests.specs.declared.line.NumberedLine.{NumberedLine}
use Rattle.a2_tests.specs.Cases.{case_of, case_with, cases_from, or_whole}

pub whole-lines : {A : Type 0} (head lines rest : List NumberedLine) (cases : List (Case A)) → length cases ≡ 0 → length rest < 1
    → map case_of cases ++ cases_from head rest ≡ cases_from head lines → or_whole lines (cases_from head lines) ≡ case_with [] lines ∷ []
whole-lines head lines [] [] none few is = ap (or_whole lines) (sym is)
whole-lines head lines (asked ∷ rest) [] none few is = absurd (omega (arith, few))
whole-lines head lines rest (case ∷ cases) none few is = absurd (omega (arith, none))
