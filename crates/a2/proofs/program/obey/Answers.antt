use Rattle.a2.proofs.Reported.{told_of_order}
use Rattle.a2.proofs.program.obey.Goals as goal

pub returns-in-Ok-clause-told : goal.returns-in-Ok-clause-told
returns-in-Ok-clause-told g c = told_of_order _ _ _ _ _ _ _ _ _ _ _ c.follow.ensures.done
