use Rattle.a2_history.proofs.Ways.{same-here}
use Rattle.a2_history.proofs.laws.it_is_done_there.Goals as goal

pub returns : goal.returns
returns c = λ course n action. same-here course n action
