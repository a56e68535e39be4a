use Rattle.a2_dap.proofs.Reaching.{joined}
use Rattle.a2_dap.proofs.session.Session.jump.Goals as goal

pub returns : goal.returns
returns c = joined _ _ _ c.set-outcome.ensures c.report-reported.ensures.reached
