use Rattle.a2_footprint.proofs.Turning as theorem
use Rattle.a2_footprint.proofs.laws.runs_alike_on_rotated_stack.Goals as goal

pub returns : goal.returns
returns c = theorem.turning
