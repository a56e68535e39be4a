use Rattle.std.proofs.Common.{List, ap, sym, ◌∙◌, subst, refl}
use Rattle.a2_history.specs.declared.actions.Action.TheVariants.{Keys}
use Rattle.a2_history.specs.declared.actions.Logged.{Logged}
use Rattle.a2_history.specs.Courses.{Course}
use Rattle.a2_history.specs.Going.{IsOn, up_to}
use Rattle.a2_history.proofs.Logs.{typed-is, noted}
use Rattle.a2_history.proofs.Ways.{done-on}
use Rattle.a2_history.proofs.course.Course.type_keys.Goals as goal

pub returns-clause-typed : goal.returns-clause-typed
returns-clause-typed g c =
    typed-is c.args.machine.now c.type_keys.new.self c.args.keys c.type_keys.result c.type_keys.ensures.room c.type_keys.ensures.typed c.type_keys.ensures.kept

pub returns-clause-noted : goal.returns-clause-noted
returns-clause-noted g c =
    noted c.args.self.now c.self.inside.origin.state c.self.inside.log.items _ c.note.new.log.items c.steps.result
    c.args.machine.now.state.steps (Keys c.args.keys) c.self.view_is
    (ap (λ (xs : List Logged). up_to c.steps.result xs) c.try_reserve.ensures.items) c.note.ensures
    (c.steps.ensures ∙ (typed-is c.args.machine.now c.type_keys.new.self c.args.keys c.type_keys.result c.type_keys.ensures.room c.type_keys.ensures.typed c.type_keys.ensures.kept).steps)

pub returns-clause-on : goal.returns-clause-on
returns-clause-on g c =
    subst (λ (k : Course). IsOn k c.type_keys.new.self.state) (sym (returns-clause-noted g c))
    (done-on c.args.self.now c.args.machine.now.state.steps (Keys c.args.keys) c.args.machine.now.state c.type_keys.new.self.state refl
    (record { world = c.requires.world; went = c.requires.went })
    (typed-is c.args.machine.now c.type_keys.new.self c.args.keys c.type_keys.result c.type_keys.ensures.room c.type_keys.ensures.typed c.type_keys.ensures.kept))
