use Rattle.a2_dap.proofs.Reaching.{stays, then_done}
use Rattle.a2_dap.proofs.changing.write.Goals as goal

pub loop-byte-init : goal.loop-byte-init
loop-byte-init c = stays _

pub loop-byte-preserved : goal.loop-byte-preserved
loop-byte-preserved c = then_done _ _ _ _ c.loop-byte.invariant c.make-outcome.ensures

pub returns-then-not-matches : goal.returns-then-not-matches
returns-then-not-matches c = then_done _ _ _ _ c.loop-byte.invariant c.make-outcome.ensures
