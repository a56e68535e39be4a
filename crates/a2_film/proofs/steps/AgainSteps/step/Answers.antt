use Rattle.std.proofs.Common.{◌≡◌, ℕ, ◌==◌, true, List, length, refl, sym, ap, ap₂, ◌∙◌, arith}
use Rattle.std.proofs.lemmas.Bool.Decides.{nat_tests}
use Rattle.a2_bus.specs.BusState.{BusState}
use Rattle.a2_timed_keys.specs.Finished.{Finished}
use Rattle.a2_timed_keys.specs.Rerun.{Rerunning, worlds_of}
use Rattle.a2_timed_keys.specs.Typed.{keys_at}
use Rattle.a2_timed_keys.specs.declared.strokes.Typed.{Typed}
use Rattle.a2_film.proofs.Moves.{again-step, none-typed}
use Rattle.a2_film.proofs.steps.AgainSteps.step.Goals as goal

no-length : (n : ℕ) → true ≡ (n == 0) → n ≡ 0
no-length n e = grind (arith, nat_tests, e)

pub returns-then-is_empty : goal.returns-then-is_empty
returns-then-is_empty g c =
    let old = c.args.self.now.rerun in
    let new = c.step.new.self in
    let machine = c.machine-machine.result.now in
    let made = c.if-not-step.ensures.made refl in
    let waiting = c.waiting.ensures.keys ∙ ap (λ (b : BusState). b.devices.keys) c.space.ensures in
    again-step old new 0 made.0 made.1
    (none-typed old.run old.steps machine
    (c.machine-machine.ensures.world ∙ ap (λ (r : Rerunning). worlds_of r.run r.steps) made.1)
    (ap (λ (l : List ℕ). length l) (sym waiting) ∙ no-length (length c.waiting.result.now) c.if-is_empty.ensures))

pub returns : goal.returns
returns g c =
    let old = c.args.self.now.rerun in
    let new = c.step.new.self in
    let made = c.if-not-step.ensures.made refl in
    let log = c.as_slice.ensures.keys ∙ c.strokes.ensures ∙ ap (λ (f : Finished). f.log) (sym c.args.self.now.same) in
    let steps = c.steps.ensures ∙ c.machine-machine.ensures.steps ∙ ap (λ (r : Rerunning). r.steps) made.1 in
    again-step old new c.count_at.result made.0 made.1
    (c.count_at.ensures ∙ ap₂ (λ (log : List Typed) (steps : ℕ). length (keys_at log steps)) log steps)
