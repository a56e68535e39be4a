use Rattle.a2_footprint.proofs.Promising as theorem
use Rattle.a2_footprint.proofs.laws.tries_depend_on_inputs.Goals as goal

pub returns : goal.returns
returns c = theorem.tries
