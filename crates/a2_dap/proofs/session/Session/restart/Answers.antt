use Rattle.a2_dap.proofs.Travelling.{joined}
use Rattle.a2_dap.proofs.session.Session.restart.Goals as goal

pub returns : goal.returns
returns c = joined _ _ _ c.apply_stops.ensures c.begin.ensures
