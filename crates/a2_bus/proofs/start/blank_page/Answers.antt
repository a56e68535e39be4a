use Rattle.std.proofs.Common.{arith}
use Rattle.std.proofs.lemmas.Grind.{common_steps}
use Rattle.a2_bus.proofs.Starting.{no_rows, one_row}
use Rattle.a2_bus.proofs.start.blank_page.Goals as goal

pub loop-row-init : goal.loop-row-init
loop-row-init c = no_rows _ c.requires

pub loop-row-preserved : goal.loop-row-preserved
loop-row-preserved c = one_row _ _ _ c.loop-row.row c.loop-row-test.true c.loop-row.invariant (grind (arith, common_steps))

pub returns-clause-others : goal.returns-clause-others
returns-clause-others c =
    λ a away. c.loop-row.invariant.others a (λ row column lt. away row column (omega (arith, lt)))
