use Rattle.a2_asm.proofs.ValuedLaws.{accepted-valued}
use Rattle.a2_asm.proofs.assembling.accepted_lines_have_their_values.Goals as goal

pub returns : goal.returns
returns c = accepted-valued
