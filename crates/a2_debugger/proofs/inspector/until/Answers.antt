use Rattle.a2_debugger.proofs.Calm.{warns-at}
use Rattle.a2_debugger.proofs.inspector.until.Goals as goal

pub go_on-requires : goal.go_on-requires
go_on-requires g c = warns-at c.args.address c.args.history.now.course c.args.history.now.position
