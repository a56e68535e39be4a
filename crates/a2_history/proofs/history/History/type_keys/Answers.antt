use Rattle.std.proofs.Common.{◌<◌, All, arith, ap, sym, ◌∙◌, subst}
use Rattle.std.proofs.lemmas.Result.{err_from_is_err_and}
use Rattle.a2_history.specs.declared.actions.Action.TheVariants.{Keys}
use Rattle.a2_history.specs.Courses.{Course}
use Rattle.a2_history.specs.Going.{Track, here, AreOn}
use Rattle.a2_history.proofs.Ways.{on-done}
use Rattle.a2_history.proofs.Histories.{waiting-keys}
use Rattle.a2_history.proofs.history.History.type_keys.Goals as goal

pub invariant_of-self-2 : goal.invariant_of-self-2
invariant_of-self-2 g c =
    let n = c.self.inside.machine.state.steps in
    let noted = c.in_ok-type_keys.ensures.noted in
    let before = subst (λ m. All (λ d. d.state.steps < m) c.forget_from.new.self) c.steps-position.ensures c.forget_from.ensures.before in (
      c.in_ok-type_keys.ensures.on,
      c.type_keys.ensures.guard ∙ c.self.invariant.1 ∙ sym (ap (λ (k : Course). k.origin.guard) noted),
      omega (arith, c.type_keys.ensures.steps, c.self.invariant.2),
      c.self.invariant.3 ∙ sym (ap (λ (k : Course). k.origin.guard) noted),
      c.keep.ensures c.type_keys.new.self c.in_ok-type_keys.ensures.on
          (subst (λ (k : Course). AreOn k c.forget_from.new.self) (sym noted)
          (on-done c.self.inside.course n (Keys c.args.keys) c.forget_from.new.self (c.forget_from.ensures.on c.self.inside.course c.self.invariant.4) before)),
    )

pub returns-clause-room : goal.returns-clause-room
returns-clause-room g c =
    let same = c.self.invariant.0.world ∙ ap (λ (t : Track). here t) c.self.view_is in
    omega (arith, waiting-keys c.self.inside.machine.state (here c.args.self.now) same, c.in_ok-type_keys.ensures.room)

pub returns-in_err-type_keys-clause-full : goal.returns-in_err-type_keys-clause-full
returns-in_err-type_keys-clause-full g c =
    let p = err_from_is_err_and c.from_residual.result c.from_residual.ensures.1 in
    let same = c.self.invariant.0.world ∙ ap (λ (t : Track). here t) c.self.view_is in
    rw (p.1, p.2) (λ is_full. omega (arith, waiting-keys c.self.inside.machine.state (here c.args.self.now) same, c.in_err-type_keys.ensures.full is_full))
