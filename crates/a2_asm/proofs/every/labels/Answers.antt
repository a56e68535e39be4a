use Rattle.std.proofs.Common.{arith}
use Rattle.std.proofs.lemmas.List.{take_all}
use Rattle.std.proofs.lemmas.List.Sums.{fold-append}
use Rattle.a2_asm.proofs.Steps.{read}
use Rattle.a2_asm.proofs.every.labels.Goals as goal

pub loop-line-preserved : goal.loop-line-preserved
loop-line-preserved g c = grind (arith, read, fold-append)

pub returns : goal.returns
returns g c = grind (arith, take_all)
