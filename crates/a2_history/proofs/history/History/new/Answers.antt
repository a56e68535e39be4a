use Rattle.std.proofs.Common.{List, arith, ap, sym, ◌∙◌, subst}
use Rattle.std.proofs.lemmas.List.Elements.{All-nil}
use Rattle.a2_machine.specs.State.{Device}
use Rattle.a2_history.specs.Courses.{Course}
use Rattle.a2_history.specs.Going.{IsOn, AreOn}
use Rattle.a2_history.proofs.Histories.{on-new}
use Rattle.a2_history.proofs.history.History.new.Goals as goal

pub invariant_of-result : goal.invariant_of-result
invariant_of-result g c =
    let course : Course = c.in_ok-course.course in (
      on-new course c.args.machine.state c.in_ok-course.ensures c.requires,
      sym (ap (λ (k : Course). k.origin.guard) c.in_ok-course.ensures),
      omega (arith, c.requires),
      ap (λ (d : Device). d.state.guard) c.copy_from.ensures ∙ sym (ap (λ (k : Course). k.origin.guard) c.in_ok-course.ensures),
      subst (λ (xs : List Device). AreOn course xs) (sym c.new-2.ensures) (All-nil (λ (d : Device). IsOn course d.state)),
    )
