use Rattle.a2_dap.proofs.Travelling.{begun}
use Rattle.a2_dap.proofs.moving.go_to_start.Goals as goal

pub returns : goal.returns
returns c = begun _ _ c.go_to_start.ensures
