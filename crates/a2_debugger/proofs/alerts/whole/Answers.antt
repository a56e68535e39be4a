use Rattle.std.proofs.Common.{◌∙◌, arith}
use Rattle.std.proofs.lemmas.List.{take_all}
use Rattle.a2_debugger.proofs.alerts.whole.Goals as goal

pub returns : goal.returns
returns c = c.in-Some.ensures.cases.same ∙ take_all 65536 c.args.marks.now (omega (arith, c.requires))
