use Rattle.a2_footprint.proofs.Calling as theorem
use Rattle.a2_footprint.proofs.laws.calls_go_back.Goals as goal

pub returns : goal.returns
returns c = theorem.calls
