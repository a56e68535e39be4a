use Rattle.a2_history.proofs.Logs.{byte-stored}
use Rattle.a2_history.proofs.course.store.Goals as goal

pub returns : goal.returns
returns g c = byte-stored c.args.machine.now c.poke.new.self c.args.address c.args.byte c.requires c.poke.ensures.memory c.poke.ensures.left
