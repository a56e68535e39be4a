use Rattle.a2_footprint.proofs.Calling as theorem
use Rattle.a2_footprint.proofs.laws.call_promises_hold_everywhere.Goals as goal

pub returns : goal.returns
returns c = theorem.call_promises
