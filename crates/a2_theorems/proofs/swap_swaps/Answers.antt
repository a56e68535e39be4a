use Rattle.a2_theorems.proofs.Swapping as theorem
use Rattle.a2_theorems.proofs.swap_swaps.Goals as goal

pub returns : goal.returns
returns c = theorem.swap_swaps
