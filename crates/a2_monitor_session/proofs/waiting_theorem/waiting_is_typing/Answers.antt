use Rattle.a2_monitor_session.proofs.Waiting.{waiting-is-typing}
use Rattle.a2_monitor_session.proofs.waiting_theorem.waiting_is_typing.Goals as goal

pub returns : goal.returns
returns c = waiting-is-typing
