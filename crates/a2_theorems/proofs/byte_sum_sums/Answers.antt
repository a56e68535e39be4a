use Rattle.a2_theorems.proofs.SummingBytes as theorem
use Rattle.a2_theorems.proofs.byte_sum_sums.Goals as goal

pub returns : goal.returns
returns c = theorem.byte_sum_sums
