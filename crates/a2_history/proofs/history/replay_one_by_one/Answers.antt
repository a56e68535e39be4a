use Rattle.std.proofs.Common.{arith}
use Rattle.a2_history.proofs.history.replay_one_by_one.Goals as goal

pub bring-requires-clause-went : goal.bring-requires-clause-went
bring-requires-clause-went g c = λ k l. c.requires.on.went k (omega (arith, l, c.requires.ahead))
