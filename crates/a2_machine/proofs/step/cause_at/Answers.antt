use Rattle.std.proofs.Common.{sym, ◌∙◌}
use Rattle.a2_effect.specs.Live.{live_registers}
use Rattle.a2_machine.proofs.Outcomes.{refused_here}
use Rattle.a2_machine.proofs.step.cause_at.Goals as goal

pub returns : goal.returns
returns g c before =
    refused_here c.args.guard.now (live_registers c.args.live.now) c.args.space.now c.peek.ensures.size c.if-live-ge-RAM_END.false
    (sym c.admits.ensures ∙ c.if-not-admits.false) c.in_ok-live_refusal.field-0 c.outcome_of.result
    (sym c.live_refusal.ensures ∙ c.in_ok-live_refusal.was) c.outcome_of.ensures before
    ∙ sym c.err.ensures.value
