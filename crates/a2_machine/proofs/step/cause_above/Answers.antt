use Rattle.std.proofs.Common.{subst, sym, ◌∙◌}
use Rattle.a2_effect.specs.Live.{live_registers}
use Rattle.a2_machine.specs.Outcome.{IsCallAt}
use Rattle.a2_machine.proofs.Calls.{refused_turn}
use Rattle.a2_machine.proofs.step.cause_above.Goals as goal

pub returns-in_ok-refusal-in-Ok : goal.returns-in_ok-refusal-in-Ok
returns-in_ok-refusal-in-Ok g c before =
    refused_turn c.args.guard.now (live_registers c.args.live.now) c.args.space.now c.in-Ok.service
    (subst (λ found. IsCallAt c.args.guard.now c.args.live.now.pc found) c.in-Ok.is c.call_at.ensures)
    c.in_ok-refusal-in-Ok.field-0 c.outcome_of_call.result (sym c.refusal.ensures.answer ∙ c.in_ok-refusal-in-Ok.was) c.outcome_of_call.ensures before
    ∙ sym c.err.ensures.value
