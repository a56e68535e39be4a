use Rattle.a2_footprint.proofs.Running as theorem
use Rattle.a2_footprint.proofs.laws.runs_depend_on_uses.Goals as goal

pub returns : goal.returns
returns c = theorem.runs
