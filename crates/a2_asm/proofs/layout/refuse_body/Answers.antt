use Rattle.std.proofs.Common.{arith}
use Rattle.a2_asm.proofs.layout.refuse_body.Goals as goal

pub directive_error-requires : goal.directive_error-requires
directive_error-requires g c = c.requires

pub returns-in-Org : goal.returns-in-Org
returns-in-Org g c = grind arith

pub returns-in_default : goal.returns-in_default
returns-in_default g c = grind arith
