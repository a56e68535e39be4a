use Rattle.a2_footprint.proofs.Fetching as theorem
use Rattle.a2_footprint.proofs.laws.steps_by_bytes_read.Goals as goal

pub returns : goal.returns
returns c = theorem.steps_by_bytes
