use Rattle.a2_theorems.proofs.SummingKeys as theorem
use Rattle.a2_theorems.proofs.key_sum_sums.Goals as goal

pub returns : goal.returns
returns c = theorem.key_sum_sums
