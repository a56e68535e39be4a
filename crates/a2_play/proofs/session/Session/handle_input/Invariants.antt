use Rattle.std.proofs.Common.{length}
use Rattle.a2_play.proofs.session.Session.handle_input.Given as goal

abbrev pub decreases-loop-stroke : goal.decreases-loop-stroke
decreases-loop-stroke l = length l.ahead
