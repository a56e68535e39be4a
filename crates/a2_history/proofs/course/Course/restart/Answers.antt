use Rattle.std.proofs.Common.{◌≡◌, List, ap, ◌∙◌, subst}
use Rattle.a2_machine.specs.State.{Device, world_of_state}
use Rattle.a2_history.specs.declared.actions.Logged.{Logged}
use Rattle.a2_history.specs.Courses.{Course}
use Rattle.a2_history.specs.Acting.{IsActedBy}
use Rattle.a2_history.proofs.Ways.{on-start}
use Rattle.a2_history.proofs.course.Course.restart.Goals as goal

pub returns-clause-on : goal.returns-clause-on
returns-clause-on g c =
    let same : c.as_slice.result.now ≡ c.args.self.now.log = c.as_slice.ensures.value ∙ ap (λ (k : Course). k.log) c.self.view_is in
    on-start c.args.self.now c.restore.new.self.state c.act_logged.new.machine.state
    (ap (λ (d : Device). world_of_state d.state) c.restore.ensures ∙ ap (λ (k : Course). world_of_state k.origin) c.self.view_is)
    (ap (λ (d : Device). d.state.steps) c.restore.ensures ∙ c.self.invariant)
    (subst (λ (xs : List Logged). IsActedBy xs c.restore.new.self.state c.act_logged.new.machine.state) same c.act_logged.ensures)
