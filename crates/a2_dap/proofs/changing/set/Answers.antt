use Rattle.a2_dap.proofs.Reaching.{done}
use Rattle.a2_dap.proofs.changing.set.Goals as goal

pub returns : goal.returns
returns c = done _ _ _ c.make.ensures
