use Rattle.a2_film.proofs.Moves.{machine-cause}
use Rattle.a2_film.proofs.steps.MachineSteps.cause.Goals as goal

pub returns : goal.returns
returns g c = machine-cause c.args.self.now c.run.new.self c.run.result c.run.ensures
