use Rattle.a2_dap.proofs.Reaching.{answered}
use Rattle.a2_dap.proofs.session.line_answer.Goals as goal

pub returns : goal.returns
returns c = answered c.args.line.now _ _ c.answer_beside.ensures.1
