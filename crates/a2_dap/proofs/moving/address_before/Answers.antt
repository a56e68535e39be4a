use Rattle.std.proofs.Common.{refl}
use Rattle.a2_dap.proofs.Travelling.{done, then_done}
use Rattle.a2_dap.proofs.moving.address_before.Goals as goal

pub returns : goal.returns
returns c = then_done _ _ _ _ (done _ _ _ c.step_back.ensures refl) c.step_in.ensures refl
