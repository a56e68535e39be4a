use Rattle.a2_machine.specs.State.{world_of_state}
use Rattle.a2_debugger.proofs.Fetching.{stands}
use Rattle.a2_debugger.proofs.alerts.instruction_in_memory.Goals as goal

pub returns : goal.returns
returns g c =
    stands (world_of_state c.args.machine.now.state).memory c.ram_of.result.now c.in_ok-bytes.bytes.now c.args.statement.now
    c.from-first.result c.from.result c.decode.result c.ram_of.ensures c.in_ok-bytes.ensures.lookup.0.2 c.from-first.ensures
    c.from.ensures c.decode.ensures.fetched
