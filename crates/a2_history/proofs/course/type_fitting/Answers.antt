use Rattle.a2_history.proofs.Logs.{typed-is}
use Rattle.a2_history.proofs.course.type_fitting.Goals as goal

pub returns : goal.returns
returns g c = typed-is c.args.machine.now c.type_keys.new.self c.args.keys.now c.type_keys.result c.type_keys.ensures.room c.type_keys.ensures.typed c.type_keys.ensures.kept
