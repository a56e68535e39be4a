use Rattle.std.proofs.Common.{refl}
use Rattle.a2_dap.proofs.Travelling.{stays, then_done}
use Rattle.a2_dap.proofs.marking.set_breaks.Goals as goal

pub loop-mark-init : goal.loop-mark-init
loop-mark-init c = stays _

pub loop-mark-preserved : goal.loop-mark-preserved
loop-mark-preserved c = then_done _ _ _ _ c.loop-mark.invariant c.execute_command.ensures refl
