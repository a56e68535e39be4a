use Rattle.std.proofs.Common.{◌∙◌, arith, sym}
use Rattle.std.proofs.lemmas.Bool.Decides.{nat_tests}
use Rattle.std.proofs.lemmas.Result.{IfOk-weaker}
use Rattle.a2_tests.proofs.Wholes.{whole-lines}
use Rattle.a2_tests.proofs.cases.cases_of.Goals as goal

pub returns-then-is_empty : goal.returns-then-is_empty
returns-then-is_empty g c =
    IfOk-weaker c.whole.result _ _ (λ cases is. is ∙ sym (rw c.front-head.ensures at (whole-lines c.front-head.result.now c.args.lines.now
    c.loop-rest.rest.now c.loop-rest.cases.items (grind (arith, nat_tests, c.is_empty.ensures, c.if-is_empty.true)) (omega (arith, c.in_default.len_below))
    c.loop-rest.invariant))) c.whole.ensures
