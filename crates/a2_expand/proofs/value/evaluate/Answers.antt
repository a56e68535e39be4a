use Rattle.std.proofs.Common.{List, ap, subst, ◌∙◌}
use Rattle.std.specs.Prelude.{ℤ, Result, Ok, Err, IfOk}
use Rattle.a2_expand.specs.declared.fault.ExpandFault.{ExpandFault}
use Rattle.a2_expand.specs.declared.value.Constant.{Constant}
use Rattle.a2_expand.specs.Expressions.{Piece, Says, pieces}
use Rattle.a2_expand.specs.Calculating.{Tells, calculated}
use Rattle.a2_expand.proofs.Complete.{calculates}
use Rattle.a2_expand.proofs.Sound.{spells}
use Rattle.a2_expand.proofs.value.evaluate.Goals as goal

found : {A : Type 0} (constants : List (Constant A)) (all : List Piece) (r : Result ℤ ExpandFault)
    → Tells (λ z. z) r (calculated constants all) → IfOk r (λ z. Says constants all z)
found constants all (Ok z) h = spells constants all z h
found constants all (Err fault) h = tt

pub returns-clause-found : goal.returns-clause-found
returns-clause-found g c = found c.args.constants.now (pieces c.args.tokens.now) c.calculate.result c.calculate.ensures

pub returns-clause-only : goal.returns-clause-only
returns-clause-only g c = λ z says.
    subst (Tells (λ y. y) c.calculate.result)
    (ap (calculated c.args.constants.now) says.is_spelled ∙ calculates c.args.constants.now says.expression z says.is_grouped says.has_value)
    c.calculate.ensures
