use Rattle.std.proofs.Common.{◌∙◌}
use Rattle.a2_machine.specs.State.{world_of_state}
use Rattle.a2_debugger.proofs.Calm.{calm-more}
use Rattle.a2_debugger.proofs.alerts.calm_all.Goals as goal

pub loop-statement-preserved : goal.loop-statement-preserved
loop-statement-preserved g c = record {
  size = c.calm.auto.marks ∙ c.loop-statement.invariant.size;
  all = calm-more c.args.watches.now c.args.statements.now (world_of_state c.args.machine.now.state).memory
      c.loop-statement.marks c.calm.new.marks c.loop-statement.statement-index _ c.loop-statement-test.true c.loop-statement.invariant.all c.calm.ensures;
}
