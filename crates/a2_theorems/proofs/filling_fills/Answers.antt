use Rattle.a2_theorems.proofs.Filling as theorem
use Rattle.a2_theorems.proofs.filling_fills.Goals as goal

pub returns : goal.returns
returns c = theorem.filling_fills
