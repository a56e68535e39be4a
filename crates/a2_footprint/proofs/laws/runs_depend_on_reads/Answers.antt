use Rattle.a2_footprint.proofs.Whole as theorem
use Rattle.a2_footprint.proofs.laws.runs_depend_on_reads.Goals as goal

pub returns : goal.returns
returns c = theorem.runs_by_reads
