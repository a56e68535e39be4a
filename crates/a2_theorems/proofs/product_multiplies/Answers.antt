use Rattle.a2_theorems.proofs.Multiplying as theorem
use Rattle.a2_theorems.proofs.product_multiplies.Goals as goal

pub returns : goal.returns
returns c = theorem.product_multiplies
