use Rattle.std.proofs.Common.{◌≡◌, ◌+◌, ◌∷◌, List, drop, ap, sym, ◌∙◌}
use Rattle.std.proofs.lemmas.List.{drop_more, at_drop_all}
use Rattle.a2_machine.specs.State.{world_of_state}
use Rattle.a2_history.specs.declared.actions.Logged.{Logged}
use Rattle.a2_history.specs.Courses.{with_logged}
use Rattle.a2_history.proofs.Logs.{logged-next, logged-none}
use Rattle.a2_history.proofs.course.act_logged.Goals as goal

pub loop-logged-preserved : goal.loop-logged-preserved
loop-logged-preserved g c =
    let log : List Logged = c.args.log.now in
    let i = c.loop-logged.logged-index in
    let t : Logged = c.logged-item.result in
    let split : drop i log ≡ t ∷ drop (i + 1) log =
    drop_more log i t c.loop-logged-test.true ∙ ap (λ (x : Logged). x ∷ drop (i + 1) log) (sym c.logged-item.is) in
    record {
      world = logged-next log i t c.loop-logged.machine.state c.repeat.new.machine.state split c.repeat.ensures ∙ c.loop-logged.invariant.world;
      steps = c.repeat.ensures.steps ∙ c.loop-logged.invariant.steps;
      guard = c.repeat.ensures.guard ∙ c.loop-logged.invariant.guard;
    }

pub returns : goal.returns
returns g c =
    let state = c.loop-logged.machine.state in record {
      world = sym (logged-none state.steps (world_of_state state))
          ∙ sym (at_drop_all (λ (xs : List Logged). with_logged xs state.steps (world_of_state state)) c.args.log.now c.loop-logged.logged-index c.loop-logged-test.false)
          ∙ c.loop-logged.invariant.world;
      steps = c.loop-logged.invariant.steps;
      guard = c.loop-logged.invariant.guard;
    }
