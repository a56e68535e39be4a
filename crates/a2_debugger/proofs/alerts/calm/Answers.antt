use Rattle.a2_machine.specs.State.{world_of_state}
use Rattle.a2_debugger.proofs.Calm.{cleared}
use Rattle.a2_debugger.proofs.alerts.calm.Goals as goal

pub returns-then-is_calm : goal.returns-then-is_calm
returns-then-is_calm g c =
    cleared c.args.watches.now (world_of_state c.args.machine.now.state).memory c.args.marks.now c.args.statement.now
    c.from.result c.from.ensures (c.is_calm.ensures c.if-is_calm.true)
