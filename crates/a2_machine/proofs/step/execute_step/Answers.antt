use Rattle.std.proofs.Common.{sym, ◌∙◌, refl}
use Rattle.a2_machine.proofs.Costs.{guarded-cost}
use Rattle.a2_machine.proofs.Outcomes.{instruction_outcome, told_outcome}
use Rattle.a2_machine.proofs.step.execute_step.Goals as goal

pub returns-clause-outcome : goal.returns-clause-outcome
returns-clause-outcome g c =
    instruction_outcome c.args.guard.now _ _ c.peek.ensures.size c.if-live-ge-RAM_END.false (sym c.admits.ensures ∙ c.if-not-admits.false) _ _ _
    (told_outcome _ c.live_step-step.result _ c.live_step-step.ensures.answer c.outcome_of.ensures) c.live_step-step.ensures.registers c.live_step-step.ensures.memory

pub returns-clause-cost : goal.returns-clause-cost
returns-clause-cost g c =
    guarded-cost _ _ _ refl _ (told_outcome _ c.live_step-step.result _ c.live_step-step.ensures.answer c.outcome_of.ensures)
