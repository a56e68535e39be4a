use Rattle.a2_footprint.proofs.Counting as theorem
use Rattle.a2_footprint.proofs.laws.states_are_counted.Goals as goal

pub returns : goal.returns
returns c = theorem.counted
