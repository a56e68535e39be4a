use Rattle.a2_promise.proofs.Looking as theorem
use Rattle.a2_promise.proofs.values_depend_only_on_reads.Goals as goal

pub returns : goal.returns
returns c = theorem.values
