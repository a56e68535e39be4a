use Rattle.a2_footprint.proofs.Fetching as theorem
use Rattle.a2_footprint.proofs.laws.fetches_depend_on_reads.Goals as goal

pub returns : goal.returns
returns c = theorem.fetches
