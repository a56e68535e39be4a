use Rattle.std.proofs.Common.{arith}
use Rattle.std.proofs.lemmas.Grind.{common_steps}
use Rattle.std.proofs.lemmas.List.{length-replicate}
use Rattle.a2_services.proofs.Screens.{row_laid}
use Rattle.a2_services.proofs.screen.fill_part.Goals as goal

pub returns : goal.returns
returns g c = grind (arith, common_steps, row_laid, length-replicate)
