use Rattle.std.proofs.Common.{sym, ◌∙◌}
use Rattle.a2_history.proofs.Logs.{acted-here, acted-elsewhere}
use Rattle.a2_history.proofs.course.repeat.Goals as goal

pub returns-then-logged-steps : goal.returns-then-logged-steps
returns-then-logged-steps g c =
    acted-here c.args.logged.now c.args.machine.now.state c.act.new.machine.state (c.if-logged-steps.true ∙ c.steps.ensures) c.act.ensures

pub returns-else-logged-steps : goal.returns-else-logged-steps
returns-else-logged-steps g c =
    acted-elsewhere c.args.logged.now c.args.machine.now.state (λ e. c.if-logged-steps.false (e ∙ sym c.steps.ensures))
