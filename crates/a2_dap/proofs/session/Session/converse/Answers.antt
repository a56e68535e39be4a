use Rattle.a2_dap.proofs.Reaching.{joined}
use Rattle.a2_dap.proofs.session.Session.converse.Goals as goal

pub returns : goal.returns
returns c = joined _ _ _ c.say-text.ensures c.report_move-reported.ensures.reached
