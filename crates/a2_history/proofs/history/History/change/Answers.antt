use Rattle.std.proofs.Common.{◌<◌, All, arith, ap, sym, ◌∙◌, subst}
use Rattle.a2_history.specs.declared.actions.Action.TheVariants.{Change as Changed}
use Rattle.a2_history.specs.Courses.{Course}
use Rattle.a2_history.specs.Going.{AreOn}
use Rattle.a2_history.proofs.Ways.{on-done}
use Rattle.a2_history.proofs.history.History.change.Goals as goal

pub invariant_of-self-2 : goal.invariant_of-self-2
invariant_of-self-2 g c =
    let n = c.self.inside.machine.state.steps in
    let noted = c.in_ok-change.ensures.noted in
    let before = subst (λ m. All (λ d. d.state.steps < m) c.forget_from.new.self) c.steps-position.ensures c.forget_from.ensures.before in (
      c.in_ok-change.ensures.on,
      c.change.ensures.guard ∙ c.self.invariant.1 ∙ sym (ap (λ (k : Course). k.origin.guard) noted),
      omega (arith, c.change.ensures.steps, c.self.invariant.2),
      c.self.invariant.3 ∙ sym (ap (λ (k : Course). k.origin.guard) noted),
      c.keep.ensures c.change.new.self c.in_ok-change.ensures.on
          (subst (λ (k : Course). AreOn k c.forget_from.new.self) (sym noted)
          (on-done c.self.inside.course n (Changed c.args.change) c.forget_from.new.self (c.forget_from.ensures.on c.self.inside.course c.self.invariant.4) before)),
    )
