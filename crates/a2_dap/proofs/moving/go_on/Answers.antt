use Rattle.std.proofs.Common.{refl}
use Rattle.a2_dap.proofs.Travelling.{stays, then_done}
use Rattle.a2_dap.proofs.moving.go_on.Goals as goal

pub loop-init : goal.loop-init
loop-init c = stays _

pub loop-preserved : goal.loop-preserved
loop-preserved c = then_done _ _ _ _ c.loop.invariant c.execute_command-outcome.ensures refl

pub returns-in-Some : goal.returns-in-Some
returns-in-Some c = then_done _ _ _ _ c.loop.invariant c.execute_command-outcome.ensures refl

pub returns : goal.returns
returns c = c.loop.invariant
