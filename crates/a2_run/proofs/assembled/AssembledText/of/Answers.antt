use Rattle.std.proofs.Common.{inr}
use Rattle.a2_run.proofs.Refusing.{refuses-text}
use Rattle.a2_run.proofs.assembled.AssembledText.of.Goals as goal

pub returns-clause-refused : goal.returns-clause-refused
returns-clause-refused g c =
    refuses-text c.args.text.now c.in-Err-assemble.fault c.refusal-in-Err-assemble.result c.refusal-in-Err-assemble.ensures
    (λ ne. inr (c.in-Ok.source, c.in-Ok.ensures.read, c.in-Err-assemble.ensures.refused ne))
