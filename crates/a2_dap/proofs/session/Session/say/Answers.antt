use Rattle.a2_dap.proofs.Reaching.{joined}
use Rattle.a2_dap.proofs.session.Session.say.Goals as goal

pub returns : goal.returns
returns c = joined _ _ _ c.line_answer-text.ensures c.apply_stops.ensures.reached
