use Rattle.a2_theorems.proofs.Measuring as theorem
use Rattle.a2_theorems.proofs.text_length_measures.Goals as goal

pub returns : goal.returns
returns c = theorem.text_length_measures
