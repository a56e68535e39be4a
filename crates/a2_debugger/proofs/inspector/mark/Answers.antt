use Rattle.a2_debugger.proofs.Calm.{warned}
use Rattle.a2_debugger.proofs.inspector.mark.Goals as goal

pub returns : goal.returns
returns g c =
    let stops = c.args.stops in
    warned c.may_change_code.result c.args.free c.args.program.now c.args.history.now _ stops.breaks.now stops.watches.now c.set.new.self
    c.requires.here c.requires.guard c.may_change_code.ensures c.set.ensures
