use Rattle.a2_footprint.proofs.Staying as theorem
use Rattle.a2_footprint.proofs.laws.unknown_registers_stay.Goals as goal

pub returns : goal.returns
returns c = theorem.staying
