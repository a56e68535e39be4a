use Rattle.std.proofs.Common.{refl}
use Rattle.a2_dap.proofs.Travelling.{stays, then_done}
use Rattle.a2_dap.proofs.marking.set_watches.Goals as goal

pub loop-span-init : goal.loop-span-init
loop-span-init c = stays _

pub loop-span-preserved : goal.loop-span-preserved
loop-span-preserved c = then_done _ _ _ _ c.loop-span.invariant c.execute_command.ensures refl
