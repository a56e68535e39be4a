use Rattle.std.proofs.Common.{false, get_or, ap, ◌∙◌}
use Rattle.std.proofs.lemmas.Result.{IfOk-weaker}
use Rattle.a2_check.proofs.Marking.{none-marked}
use Rattle.a2_check.proofs.warnings.statements.no_marks.Goals as goal

pub returns-clause-none : goal.returns-clause-none
returns-clause-none g c =
    IfOk-weaker c.vec.result _ _ (λ marks made a. ap (λ items. get_or items a false) (made (λ mark same. same)) ∙ none-marked 65536 a)
    c.vec.ensures.items_if_clones_equal
