use Rattle.a2_dap.proofs.Travelling.{stays}
use Rattle.a2_dap.proofs.moving.go_to_start_if.Goals as goal

pub returns-in_default : goal.returns-in_default
returns-in_default c = stays _
