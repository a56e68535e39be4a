use Rattle.a2_dap.proofs.Travelling.{joined}
use Rattle.a2_dap.proofs.session.Session.travel.Goals as goal

pub returns : goal.returns
returns c = joined _ _ _ c.move_run-stop.ensures c.report_stop.ensures
