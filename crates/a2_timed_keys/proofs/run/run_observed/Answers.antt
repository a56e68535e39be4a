use Rattle.std.proofs.Common.{◌∙◌, ◌-◌, ap, arith, subst}
use Rattle.std.proofs.lemmas.Result.{IfErr-weaker, IfOk-weaker}
use Rattle.a2_services.specs.World.{World}
use Rattle.a2_machine.specs.Looks.{observer_after}
use Rattle.a2_machine.specs.Meaning.{Code}
use Rattle.a2_machine.specs.State.{code_of, world_of_state}
use Rattle.a2_timed_keys.specs.Typed.{world_with_keys, IsOverfull, IsRunning, IsTypedStop}
use Rattle.a2_timed_keys.specs.Rerun.{shown_from}
use Rattle.a2_timed_keys.proofs.Running.{by_own_code, running_start, overfull_start}
use Rattle.a2_timed_keys.proofs.Seeing.{shown_whole}
use Rattle.a2_timed_keys.proofs.run.run_observed.Given.{Over}
use Rattle.a2_timed_keys.proofs.run.run_observed.Goals as goal
use Rattle.a2_timed_keys.proofs.run.run_observed.Goals.{After-run_on_observed}

pub returns-then-not-type_due-clause-full : goal.returns-then-not-type_due-clause-full
returns-then-not-type_due-clause-full g c =
    overfull_start c.args.machine.now c.args.typed.now c.args.limit (c.type_due.ensures.full c.if-not-type_due.true)

-- the machine with the keys of its start
begun : (g : Over) (c : After-run_on_observed g)
    → IsRunning (code_of c.args.machine.now.state) (world_of_state c.args.machine.now.state) c.args.typed.now c.args.limit 0 c.type_due.new.machine
begun g c =
    running_start c.args.machine.now c.type_due.new.machine c.args.typed.now c.args.limit c.requires.start
    (c.type_due.ensures.typed c.if-not-type_due.false) (c.type_due.ensures.room c.if-not-type_due.false)

own : (g : Over) (c : After-run_on_observed g)
    → IsRunning (code_of c.type_due.new.machine.state) (world_of_state c.args.machine.now.state) c.args.typed.now c.args.limit 0 c.type_due.new.machine
own g c =
    by_own_code (code_of c.args.machine.now.state) (world_of_state c.args.machine.now.state) c.args.typed.now c.args.limit c.args.limit 0
    c.type_due.new.machine (omega arith) (begun g c)

pub returns-clause-stopped : goal.returns-clause-stopped
returns-clause-stopped g c =
    let start : World = world_of_state c.args.machine.now.state in
    IfOk-weaker c.run_on_observed.result _ _
    (λ cause ran. subst (λ (k : Code). IsTypedStop k start c.args.typed.now c.args.limit c.run_on_observed.new.machine.state cause) (begun g c).code_is
    (ran start (own g c)))
    c.run_on_observed.ensures.stopped

pub returns-clause-full : goal.returns-clause-full
returns-clause-full g c =
    let start : World = world_of_state c.args.machine.now.state in
    IfErr-weaker c.run_on_observed.result _ _
    (λ steps over. subst (λ (k : Code). IsOverfull k start c.args.typed.now c.args.limit steps) (begun g c).code_is (over start (own g c)))
    c.run_on_observed.ensures.full

pub returns-clause-seen : goal.returns-clause-seen
returns-clause-seen g c =
    let code : Code = code_of c.args.machine.now.state in
    let start : World = world_of_state c.args.machine.now.state in
    let steps = c.run_on_observed.new.machine.state.steps in
    IfOk-weaker c.run_on_observed.result _ _
    (λ _ saw. saw start (own g c)
    ∙ ap (λ (k : Code). observer_after g.O.Observer.seen (shown_from (world_with_keys k start c.args.typed.now) 0) c.args.observer.now (steps - 0))
    (begun g c).code_is
    ∙ shown_whole g.O.Observer.seen (world_with_keys code start c.args.typed.now) c.args.observer.now steps)
    c.run_on_observed.ensures.seen
