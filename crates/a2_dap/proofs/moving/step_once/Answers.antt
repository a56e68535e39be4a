use Rattle.std.proofs.Common.{refl}
use Rattle.a2_dap.proofs.Travelling.{done}
use Rattle.a2_dap.proofs.moving.step_once.Goals as goal

pub returns : goal.returns
returns c = done _ _ _ c.step_in-outcome.ensures refl
