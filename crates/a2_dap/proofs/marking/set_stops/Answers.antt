use Rattle.std.proofs.Common.{refl}
use Rattle.a2_dap.proofs.Travelling.{joined, done}
use Rattle.a2_dap.proofs.marking.set_stops.Goals as goal

pub returns : goal.returns
returns c = joined _ _ _ (joined _ _ _ (done _ _ _ c.execute_command.ensures refl) c.set_breaks.ensures) c.set_watches.ensures
