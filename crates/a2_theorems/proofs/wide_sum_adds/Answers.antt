use Rattle.a2_theorems.proofs.AddingWords as theorem
use Rattle.a2_theorems.proofs.wide_sum_adds.Goals as goal

pub returns : goal.returns
returns c = theorem.wide_sum_adds
