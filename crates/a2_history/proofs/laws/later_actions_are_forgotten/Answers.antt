use Rattle.a2_history.proofs.Ways.{forgotten-later}
use Rattle.a2_history.proofs.laws.later_actions_are_forgotten.Goals as goal

pub returns : goal.returns
returns c = λ course n action k l. forgotten-later course n action k l
