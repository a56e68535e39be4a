use Rattle.std.specs.Prelude.{◌≡◌, ◌+◌, ◌∷◌, []}
use Rattle.std.proofs.Common.{ap, subst, ◌∙◌, arith}
use Rattle.a2_page.specs.Cells.{numbers_from}
use Rattle.a2_promise_certify.specs.Walking.{AreMarked}
use Rattle.a2_promise_certify.proofs.Marking.{each_alone, more_marked}
use Rattle.a2_promise_certify.proofs.service_stores.mark_cells.Goals as goal

pub loop-step-preserved : goal.loop-step-preserved
loop-step-preserved c =
    more_marked c.args.stored.now c.loop-step.stored c.mark.new.stored c.args.changes.now (λ a. a ∷ []) c.args.first c.loop-step.step
    c.loop-step.invariant
    (subst (λ step. AreMarked c.loop-step.stored c.mark.new.stored c.args.changes.now ((c.args.first + step) ∷ [])) c.from.ensures
    (c.mark.ensures c.if-not-mark.false))

pub returns : goal.returns
returns c = λ _.
    let all : c.loop-step.step ≡ c.args.count = omega (arith, c.loop-step-test.false, c.loop-step.auto.step-end) in
    subst (AreMarked c.args.stored.now c.loop-step.stored c.args.changes.now)
    (each_alone c.args.first c.loop-step.step ∙ ap (numbers_from c.args.first) all) c.loop-step.invariant
