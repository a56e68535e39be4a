use Rattle.std.proofs.Common.{arith}
use Rattle.a2_debug_script.proofs.Runs.{goes_to}
use Rattle.a2_debug_script.proofs.rerun.run_on.Goals as goal

pub returns-clause-there : goal.returns-clause-there
returns-clause-there g c =
    (goes_to _ _ _ _ _ _ c.args.machine.now c.run.new.self c.run.result c.requires.here c.requires.past c.requires.later c.requires.went c.requires.few
    (omega arith) c.run.ensures).0

pub returns-clause-made : goal.returns-clause-made
returns-clause-made g c = λ small.
    (let made =
    (goes_to _ _ _ _ _ _ c.args.machine.now c.run.new.self c.run.result c.requires.here c.requires.past c.requires.later c.requires.went c.requires.few
    (omega arith) c.run.ensures).1 in
    omega (arith, small, made))
