use Rattle.a2_footprint.proofs.Promising as theorem
use Rattle.a2_footprint.proofs.laws.promises_hold_everywhere.Goals as goal

pub returns : goal.returns
returns c = theorem.hold_everywhere
