use Rattle.a2_footprint.proofs.Serving as theorem
use Rattle.a2_footprint.proofs.laws.services_keep_the_rest.Goals as goal

pub returns : goal.returns
returns c = theorem.keeping
