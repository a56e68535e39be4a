use Rattle.a2_footprint.proofs.Doubling as theorem
use Rattle.a2_footprint.proofs.laws.doubling_holds.Goals as goal

pub returns : goal.returns
returns c = theorem.doubling_holds
