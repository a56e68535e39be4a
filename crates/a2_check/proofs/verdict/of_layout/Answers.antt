use Rattle.std.proofs.lemmas.Result.{IfOk-weaker}
use Rattle.a2_check.proofs.Reporting.{reported-some}
use Rattle.a2_check.proofs.verdict.of_layout.Goals as goal

pub returns-clause-some : goal.returns-clause-some
returns-clause-some g c =
    IfOk-weaker c.refusals.result _ _ (λ faults reported. reported-some c.args.source.now c.requires.0 faults.items c.requires.1 reported) c.refusals.ensures
