use Rattle.a2_footprint.proofs.Turning as theorem
use Rattle.a2_footprint.proofs.laws.runs_off_stack_alike.Goals as goal

pub returns : goal.returns
returns c = theorem.staying_off
