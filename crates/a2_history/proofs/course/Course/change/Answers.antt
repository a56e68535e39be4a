use Rattle.std.proofs.Common.{List, ap, sym, ◌∙◌, subst, refl}
use Rattle.a2_history.specs.declared.actions.Action.TheVariants.{Change as Changed}
use Rattle.a2_history.specs.declared.actions.Logged.{Logged}
use Rattle.a2_history.specs.Courses.{Course}
use Rattle.a2_history.specs.Going.{IsOn, up_to}
use Rattle.a2_history.proofs.Logs.{noted}
use Rattle.a2_history.proofs.Ways.{done-on}
use Rattle.a2_history.proofs.course.Course.change.Goals as goal

pub returns-clause-noted : goal.returns-clause-noted
returns-clause-noted g c =
    noted c.args.self.now c.self.inside.origin.state c.self.inside.log.items _ c.note.new.log.items c.steps.result
    c.args.machine.now.state.steps (Changed c.args.change) c.self.view_is
    (ap (λ (xs : List Logged). up_to c.steps.result xs) c.try_reserve.ensures.items) c.note.ensures
    (c.steps.ensures ∙ c.make_change.ensures.steps)

pub returns-clause-on : goal.returns-clause-on
returns-clause-on g c =
    subst (λ (k : Course). IsOn k c.make_change.new.machine.state) (sym (returns-clause-noted g c))
    (done-on c.args.self.now c.args.machine.now.state.steps (Changed c.args.change) c.args.machine.now.state c.make_change.new.machine.state refl
    (record { world = c.requires.world; went = c.requires.went }) c.make_change.ensures)
