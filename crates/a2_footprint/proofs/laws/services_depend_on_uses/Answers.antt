use Rattle.a2_footprint.proofs.Serving as theorem
use Rattle.a2_footprint.proofs.laws.services_depend_on_uses.Goals as goal

pub returns : goal.returns
returns c = theorem.serving
