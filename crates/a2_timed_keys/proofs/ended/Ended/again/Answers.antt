use Rattle.std.proofs.Common.{◌≡◌, ◌∙◌, ℕ, min, ap, arith, subst}
use Rattle.a2_machine.specs.ByteRun.{bytes}
use Rattle.a2_machine.specs.State.{Device}
use Rattle.a2_run.specs.Meaning.{start_of_run}
use Rattle.a2_run.specs.Started.{guard_of_run}
use Rattle.a2_timed_keys.specs.Rerun.{Rerunning}
use Rattle.a2_timed_keys.specs.Typed.{IsRunning}
use Rattle.a2_timed_keys.proofs.Again.{came_again, rerunning}
use Rattle.a2_timed_keys.proofs.ended.Ended.again.Goals as goal
use Rattle.a2_timed_keys.proofs.ended.Ended.again.Given.{Over}
use Rattle.a2_timed_keys.proofs.ended.Ended.again.Goals.{After-due_after}

-- the machine after as many steps as were asked for
reached : (g : Over) (c : After-due_after g)
    → IsRunning (bytes (guard_of_run c.args.self.now.free c.args.self.now.program)) (start_of_run c.args.self.now.program c.args.self.now.keys)
    c.args.self.now.log c.min-until.result c.min-until.result c.run_on.new.machine
reached g c =
    let f = c.args.self.now in
    let old : Device = c.in_ok-machine.machine in
    came_again f c.as_slice-typed.result.now c.min-until.result c.steps-made.result old c.run_on.new.machine c.in-Ok.field-0
    c.is_stopped.ensures.stopped (c.as_slice-typed.ensures.keys ∙ c.strokes.ensures) c.steps-made.ensures
    (omega (arith, c.min-until.ensures, c.steps-end.ensures, ap (λ (d : Device). d.state.steps) c.machine.ensures))
    (subst (λ (n : ℕ). IsRunning (bytes (guard_of_run f.free f.program)) (start_of_run f.program f.keys) f.log n old.state.steps old) c.from.ensures c.in_ok-machine.ensures)
    c.in-Ok.ensures.stopped c.in-Ok.ensures.came

pub overflow_cast-end : goal.overflow_cast-end
overflow_cast-end g c =
    omega (arith, c.steps-end.ensures, c.is_stopped.ensures.few, ap (λ (d : Device). d.state.steps) c.machine.ensures)

pub overflow_cast-made : goal.overflow_cast-made
overflow_cast-made g c =
    omega (arith, c.steps-made.ensures, c.in_ok-machine.ensures.within, c.min-until.ensures, c.from.ensures, c.ranges.steps.fits)

pub run_on-requires : goal.run_on-requires
run_on-requires g c = record { codes = rw c.as_slice-typed.ensures.keys c.as_slice-typed.ensures.codes }

pub invariant_of-result : goal.invariant_of-result
invariant_of-result g c =
    rerunning c.args.self.now c.as_slice-typed.result.now c.min-until.result c.steps-end.result c.due_after.result c.run_on.new.machine
    (c.as_slice-typed.ensures.keys ∙ c.strokes.ensures) (c.steps-end.ensures ∙ ap (λ (d : Device). d.state.steps) c.machine.ensures)
    (omega (arith, c.min-until.ensures)) (reached g c) c.due_after.ensures.within c.due_after.ensures.next c.due_after.ensures.none

pub returns-in-Ok : goal.returns-in-Ok
returns-in-Ok g c =
    let steps : c.run_on.new.machine.state.steps ≡ min c.args.steps c.args.self.now.machine.state.steps
    = omega (arith, (reached g c).steps, c.min-until.ensures, c.steps-end.ensures, ap (λ (d : Device). d.state.steps) c.machine.ensures) in
    ap (λ (n : ℕ). let r : Rerunning = record { run = c.args.self.now; steps = n } in r) steps
