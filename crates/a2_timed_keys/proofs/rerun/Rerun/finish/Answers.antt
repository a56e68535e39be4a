use Rattle.std.proofs.Common.{◌≡◌, ◌∙◌, ◌-◌, ◌≤◌, ℕ, ap, arith, subst}
use Rattle.a2_asm.specs.Assembled.{Assembled}
use Rattle.a2_asm.specs.Programs.{IsSound}
use Rattle.a2_services.specs.World.{World}
use Rattle.a2_machine.specs.declared.causes.Cause.{Cause}
use Rattle.a2_machine.specs.ByteRun.{bytes}
use Rattle.a2_machine.specs.Looks.{observer_after}
use Rattle.a2_machine.specs.State.{code_of, Device}
use Rattle.a2_run.specs.Meaning.{start_of_run}
use Rattle.a2_run.specs.Started.{guard_of_run}
use Rattle.a2_timed_keys.specs.Rerun.{Rerunning, shown_from, worlds_of}
use Rattle.a2_timed_keys.specs.Typed.{IsRunning, IsTypedStop}
use Rattle.a2_timed_keys.proofs.Again.{came_again, fitted_again, rerunning, seen_again}
use Rattle.a2_timed_keys.proofs.Running.{with_limit}
use Rattle.a2_timed_keys.proofs.rerun.Rerun.finish.Given.{Over}
use Rattle.a2_timed_keys.proofs.rerun.Rerun.finish.Goals as goal
use Rattle.a2_timed_keys.proofs.rerun.Rerun.finish.Goals.{After-run_on_observed}

-- where the run ends
last : (g : Over) (c : After-run_on_observed g) → c.steps-end.result ≡ c.self.inside.ended.now.machine.state.steps
last g c = c.steps-end.ensures ∙ ap (λ (d : Device). d.state.steps) c.machine.ensures

-- the machine before the rest of the run
before : (g : Over) (c : After-run_on_observed g)
    → let f = c.self.inside.ended.now in
    IsRunning (bytes (guard_of_run f.free f.program)) (start_of_run f.program f.keys) f.log c.steps-end.result
    c.self.inside.machine.state.steps c.self.inside.machine
before g c =
    let f = c.self.inside.ended.now in
    with_limit (bytes (guard_of_run f.free f.program)) (start_of_run f.program f.keys) f.log f.machine.state.steps c.steps-end.result
    c.self.inside.machine.state.steps c.self.inside.machine (omega (arith, c.self.invariant.at.within, last g c)) c.self.invariant.at

pub overflow_cast-end : goal.overflow_cast-end
overflow_cast-end g c =
    omega (arith, c.steps-end.ensures, c.is_stopped.ensures.few, ap (λ (d : Device). d.state.steps) c.machine.ensures)

pub overflow_cast-made : goal.overflow_cast-made
overflow_cast-made g c = omega (arith, c.steps-made.ensures, c.self.invariant.at.within, c.is_stopped.ensures.few)

pub run_on_observed-requires : goal.run_on_observed-requires
run_on_observed-requires g c = record { codes = rw c.as_slice-typed.ensures.keys c.as_slice-typed.ensures.codes }

-- the machine after it
reached : (g : Over) (c : After-run_on_observed g) (cause : Cause)
    → ((start : World) → IsRunning (code_of c.self.inside.machine.state) start c.as_slice-typed.result.now c.steps-end.result c.steps-made.result c.self.inside.machine
    → IsTypedStop (code_of c.self.inside.machine.state) start c.as_slice-typed.result.now c.steps-end.result c.run_on_observed.new.machine.state cause)
    → ((start : World) → IsRunning (code_of c.self.inside.machine.state) start c.as_slice-typed.result.now c.steps-end.result c.steps-made.result c.self.inside.machine
    → c.steps-end.result ≤ c.run_on_observed.new.machine.state.steps
    → IsRunning (code_of c.self.inside.machine.state) start c.as_slice-typed.result.now c.steps-end.result c.steps-end.result c.run_on_observed.new.machine)
    → let f = c.self.inside.ended.now in
    IsRunning (bytes (guard_of_run f.free f.program)) (start_of_run f.program f.keys) f.log c.steps-end.result c.steps-end.result
    c.run_on_observed.new.machine
reached g c cause stopped came =
    came_again c.self.inside.ended.now c.as_slice-typed.result.now c.steps-end.result c.steps-made.result c.self.inside.machine
    c.run_on_observed.new.machine cause c.is_stopped.ensures.stopped (c.as_slice-typed.ensures.keys ∙ c.strokes.ensures) c.steps-made.ensures
    (omega (arith, last g c)) (before g c) stopped came

pub unreachable-requires : goal.unreachable-requires
unreachable-requires g c =
    let s = (goal.at.unreachable-requires g c).After-run_on_observed in
    fitted_again c.self.inside.ended.now c.as_slice-typed.result.now c.steps-end.result c.steps-made.result c.in-Err.field-0
    c.self.inside.machine c.is_stopped.ensures.stopped (c.as_slice-typed.ensures.keys ∙ c.strokes.ensures) c.steps-made.ensures
    (omega (arith, last g s)) (before g s) c.in-Err.ensures.full c.in-Err.ensures.some

pub invariant_of-self : goal.invariant_of-self
invariant_of-self g c =
    let s = (goal.at.invariant_of-self g c).After-run_on_observed in
    rerunning c.self.inside.ended.now c.as_slice-typed.result.now c.steps-end.result c.steps-end.result c.self.inside.due c.run_on_observed.new.machine
    (c.as_slice-typed.ensures.keys ∙ c.strokes.ensures) (last g s) (omega arith)
    (reached g s c.in-Ok.field-0 c.in-Ok.ensures.stopped c.in-Ok.ensures.came)
    (omega (arith, c.self.invariant.within, last g s)) (λ l. absurd (omega (arith, l)))
    (λ k l h. absurd (omega (arith, l, h, c.self.invariant.within, last g s)))

pub returns-clause-ended : goal.returns-clause-ended
returns-clause-ended g c =
    let s = (goal.at.returns-clause-ended g c).After-run_on_observed in
    let new : Rerunning = record { run = c.self.inside.ended.now; steps = c.run_on_observed.new.machine.state.steps } in
    let steps : c.run_on_observed.new.machine.state.steps ≡ c.self.inside.ended.now.machine.state.steps
    = (reached g s c.in-Ok.field-0 c.in-Ok.ensures.stopped c.in-Ok.ensures.came).steps ∙ last g s in
    subst (λ (r : Rerunning). new ≡ record r { steps = r.run.machine.state.steps }) c.self.view_is
    (ap (λ (n : ℕ). let r : Rerunning = record { run = c.self.inside.ended.now; steps = n } in r) steps)

pub returns-clause-seen : goal.returns-clause-seen
returns-clause-seen g c =
    let s = (goal.at.returns-clause-seen g c).After-run_on_observed in
    let f = c.self.inside.ended.now in
    subst (λ (r : Rerunning). c.run_on_observed.new.observer
    ≡ observer_after g.O.Observer.seen (shown_from (worlds_of r.run) r.steps) c.args.observer.now (r.run.machine.state.steps - r.steps)) c.self.view_is
    (seen_again g.O.Observer.seen f c.as_slice-typed.result.now c.steps-end.result c.steps-made.result c.self.inside.machine
    c.run_on_observed.new.machine c.args.observer.now c.run_on_observed.new.observer
    (subst (λ (p : Assembled). IsSound p) c.program.ensures c.is_sound.ensures) c.is_stopped.ensures.stopped
    (c.as_slice-typed.ensures.keys ∙ c.strokes.ensures) c.steps-made.ensures (last g s)
    (reached g s c.in-Ok.field-0 c.in-Ok.ensures.stopped c.in-Ok.ensures.came).steps (before g s) c.in-Ok.ensures.seen)
