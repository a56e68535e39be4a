use Rattle.a2_dap.proofs.Travelling.{same}
use Rattle.a2_dap.proofs.session.Session.show_stack.Goals as goal

pub returns : goal.returns
returns c = same _ _ c.stack_of-body.ensures
