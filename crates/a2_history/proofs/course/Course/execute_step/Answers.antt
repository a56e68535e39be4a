use Rattle.std.proofs.Common.{◌≡◌, List, ap, ◌∙◌, subst}
use Rattle.a2_history.specs.declared.actions.Logged.{Logged}
use Rattle.a2_history.specs.Courses.{Course}
use Rattle.a2_history.specs.Acting.{IsActedBy}
use Rattle.a2_history.proofs.Ways.{on-made, stuck-told}
use Rattle.a2_history.proofs.course.Course.execute_step.Goals as goal

pub returns-then-is_none-clause-on : goal.returns-then-is_none-clause-on
returns-then-is_none-clause-on g c =
    let same : c.as_slice.result.now ≡ c.args.self.now.log = c.as_slice.ensures.value ∙ ap (λ (k : Course). k.log) c.self.view_is in
    on-made c.args.self.now c.args.machine.now c.step-cause.new.self c.act_logged.new.machine c.step-cause.result c.requires.on c.requires.guard c.requires.few
    c.step-cause.ensures.cause c.step-cause.ensures.made
    (subst (λ (xs : List Logged). IsActedBy xs c.step-cause.new.self.state c.act_logged.new.machine.state) same c.act_logged.ensures)

pub returns-else-is_none-clause-stuck : goal.returns-else-is_none-clause-stuck
returns-else-is_none-clause-stuck g c =
    stuck-told c.args.self.now c.args.machine.now c.step-cause.result c.requires.guard c.requires.few c.step-cause.ensures.cause
