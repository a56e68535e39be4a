use Rattle.a2_monitor.proofs.Replying.{each-reply, one-reply}
use Rattle.a2_monitor.proofs.laws.each_line_has_one_reply.Goals as goal

pub returns : goal.returns
returns c = record { each = each-reply; one = one-reply }
