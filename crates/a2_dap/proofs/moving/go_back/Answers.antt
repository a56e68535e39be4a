use Rattle.a2_dap.proofs.Travelling.{joined}
use Rattle.a2_dap.proofs.moving.go_back.Goals as goal

pub returns : goal.returns
returns c = joined _ _ _ c.go_back_to_stop-stop.ensures c.go_to_start_if.ensures
