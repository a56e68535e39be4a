use Rattle.std.proofs.Common.{refl}
use Rattle.a2_dap.proofs.Travelling.{joined, done}
use Rattle.a2_dap.proofs.moving.step_out_of.Goals as goal

pub returns : goal.returns
returns c = joined _ _ _ (done _ _ _ c.execute_command-outcome.ensures refl) c.leave.ensures
