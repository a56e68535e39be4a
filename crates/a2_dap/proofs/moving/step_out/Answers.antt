use Rattle.a2_dap.proofs.Travelling.{joined, same}
use Rattle.a2_dap.proofs.moving.step_out.Goals as goal

pub returns-in-Some : goal.returns-in-Some
returns-in-Some c = joined _ _ _ (same _ _ c.innermost.ensures) c.step_out_of.ensures

pub returns-in-None : goal.returns-in-None
returns-in-None c = same _ _ c.innermost.ensures
