use Rattle.std.specs.Option.{is_some}
use Rattle.std.proofs.Common.{◌≡◌, ◌+◌, ◌<◌, ◌∙◌, ℕ, suc, true, false, List, length, Option, None, IfNone, ap, ap₂, arith, sym, subst}
use Rattle.a2_machine.specs.declared.causes.Cause.{Cause}
use Rattle.a2_machine.specs.State.{Device, IsStep}
use Rattle.a2_timed_keys.specs.declared.strokes.Typed.{Typed}
use Rattle.a2_timed_keys.specs.Rerun.{Rerunning}
use Rattle.a2_timed_keys.specs.Typed.{keys_at, with_keys}
use Rattle.a2_timed_keys.proofs.Again.{no_cause, passed, fitted, typed_on}
use Rattle.a2_timed_keys.proofs.rerun.Rerun.step.Given.{Over}
use Rattle.a2_timed_keys.proofs.rerun.Rerun.step.Goals as goal
use Rattle.a2_timed_keys.proofs.rerun.Rerun.step.Goals.{After-is_some}

-- the run has more steps
more : (g : Over) (c : After-is_some g) → c.self.inside.machine.state.steps < c.self.inside.ended.now.machine.state.steps
more g c = omega (arith, c.if-steps-end.false, c.steps.ensures, c.steps-end.ensures, ap (λ (d : Device). d.state.steps) c.machine.ensures)

-- so the machine is not stuck
free : (g : Over) (c : After-is_some g) → c.step.result ≡ None
free g c =
    c.step.ensures.cause
    ∙ sym (no_cause c.self.inside.ended.now c.self.inside.machine c.self.inside.due c.is_stopped.ensures.stopped c.self.invariant (more g c) c.is_stopped.ensures.few)

made : (g : Over) (c : After-is_some g) → IsStep c.self.inside.machine c.step.new.self
made g c = subst (λ (r : Option Cause). IfNone r (IsStep c.self.inside.machine c.step.new.self)) (free g c) c.step.ensures.made

pub unreachable-requires : goal.unreachable-requires
unreachable-requires g c =
    let s = (goal.at.unreachable-requires g c).After-is_some in
    let both : true ≡ false = sym c.if-is_some.true ∙ c.is_some.ensures ∙ ap (λ (o : Option Cause). is_some o) (free g s) in
    cc

pub unreachable-requires-then-not-type_due : goal.unreachable-requires-then-not-type_due
unreachable-requires-then-not-type_due g c =
    let s = (goal.at.unreachable-requires-then-not-type_due g c).After-is_some in
    let log : List Typed = c.as_slice-typed.result.now in
    fitted c.self.inside.ended.now c.self.inside.machine c.self.inside.due c.is_stopped.ensures.stopped c.self.invariant (more g s)
    c.step.new.self (made g s) (omega (arith, c.if-steps-due.true, c.steps-2.ensures, c.from-due.ensures)) c.type_due.ensures.before
    (subst (λ (n : ℕ). 4096 < length c.step.new.self.state.bus.devices.keys + n)
    (ap₂ (λ (l : List Typed) (n : ℕ). length (keys_at l n)) (c.as_slice-typed.ensures.keys ∙ c.strokes.ensures) c.from-due.ensures)
    (c.type_due.ensures.full c.if-not-type_due.true))

pub invariant_of-self : goal.invariant_of-self
invariant_of-self g c =
    let s = (goal.at.invariant_of-self g c).After-is_some in
    let log : List Typed = c.as_slice-typed.result.now in
    typed_on c.self.inside.ended.now c.self.inside.machine c.self.inside.due c.is_stopped.ensures.stopped c.self.invariant (more g s)
    c.step.new.self (made g s) log c.type_due.new.machine c.steps-end.result c.due_after-self-inside.result
    (c.as_slice-typed.ensures.keys ∙ c.strokes.ensures) (c.steps-end.ensures ∙ ap (λ (d : Device). d.state.steps) c.machine.ensures)
    (omega (arith, c.if-steps-due.true, c.steps-2.ensures, c.from-due.ensures))
    (c.type_due.ensures.typed c.if-not-type_due.false ∙ ap (λ (n : ℕ). with_keys (keys_at log n) c.step.new.self) c.from-due.ensures)
    c.due_after-self-inside.ensures.within c.due_after-self-inside.ensures.next c.due_after-self-inside.ensures.none

pub invariant_of-self-else-steps-due : goal.invariant_of-self-else-steps-due
invariant_of-self-else-steps-due g c =
    let s = (goal.at.invariant_of-self-else-steps-due g c).After-is_some in
    passed c.self.inside.ended.now c.self.inside.machine c.self.inside.due c.is_stopped.ensures.stopped c.self.invariant (more g s)
    c.step.new.self (made g s) (λ e. omega (arith, e, c.if-steps-due.false, c.steps-2.ensures, c.from-due.ensures))

pub returns-else-steps-due-clause-made : goal.returns-else-steps-due-clause-made
returns-else-steps-due-clause-made g c =
    let s = (goal.at.returns-else-steps-due-clause-made g c).After-is_some in
    let new : Rerunning = record { run = c.self.inside.ended.now; steps = c.step.new.self.state.steps } in
    let steps : c.step.new.self.state.steps ≡ suc c.self.inside.machine.state.steps = omega (arith, (made g s).steps) in
    λ _. subst (λ (r : Rerunning). (r.steps < r.run.machine.state.steps) × (new ≡ record r { steps = suc r.steps })) c.self.view_is
    (more g s, ap (λ (n : ℕ). let r : Rerunning = record { run = c.self.inside.ended.now; steps = n } in r) steps)
