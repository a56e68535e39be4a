use Rattle.a2_history.proofs.Histories.{run-kept, run-cause}
use Rattle.a2_history.proofs.history.cause_at.Goals as goal

pub returns-clause-cause : goal.returns-clause-cause
returns-clause-cause g c = run-cause c.args.machine.now c.run.new.self c.run.result c.run.ensures

pub returns-clause-kept : goal.returns-clause-kept
returns-clause-kept g c = run-kept c.args.machine.now c.run.new.self c.run.result c.run.ensures
