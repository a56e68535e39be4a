use Rattle.std.proofs.Common.{subst}
use Rattle.a2_effect.specs.Live.{live_registers}
use Rattle.a2_machine.specs.Outcome.{IsCallAt}
use Rattle.a2_machine.proofs.Calls.{call_turn}
use Rattle.a2_machine.proofs.step.execute_step_above.Goals as goal

pub returns-in-Ok-clause-outcome : goal.returns-in-Ok-clause-outcome
returns-in-Ok-clause-outcome g c =
    call_turn c.args.guard.now (live_registers c.args.live.now) c.args.space.now c.in-Ok.service
    (subst (λ found. IsCallAt c.args.guard.now c.args.live.now.pc found) c.in-Ok.is c.call_at.ensures)
    (live_registers c.call.new.live) c.call.new.space c.call.result c.outcome_of_call.result c.call.ensures.called c.outcome_of_call.ensures
