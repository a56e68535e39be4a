use Rattle.a2_film.proofs.Moves.{machine-step, machine-over}
use Rattle.a2_film.proofs.steps.MachineSteps.step.Goals as goal

pub returns-in-Some : goal.returns-in-Some
returns-in-Some g c = machine-over c.args.self.now c.step.new.self c.in-Some.field-0 c.in-Some.ensures.cause c.in-Some.ensures.stuck

pub returns-in-None : goal.returns-in-None
returns-in-None g c = machine-step c.args.self.now c.step.new.self c.in-None.ensures.cause c.in-None.ensures.made
