use Rattle.a2_history.proofs.Ways.{same-before}
use Rattle.a2_history.proofs.laws.earlier_worlds_are_kept.Goals as goal

pub returns : goal.returns
returns c = λ course n action k l. same-before course n action k l
