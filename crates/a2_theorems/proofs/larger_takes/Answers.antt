use Rattle.a2_theorems.proofs.Comparing as theorem
use Rattle.a2_theorems.proofs.larger_takes.Goals as goal

pub returns : goal.returns
returns c = theorem.larger_takes
