use Rattle.std.specs.Prelude.{◌≡◌, ℕ, ◌+◌, ◌-◌, ◌∷◌, [], map}
use Rattle.std.proofs.Common.{ap, subst, ◌∙◌, arith}
use Rattle.std.proofs.lemmas.List.Concat.{flat_map_single}
use Rattle.a2_page.specs.Cells.{numbers_from}
use Rattle.a2_footprint.specs.Services.{block_cell}
use Rattle.a2_promise_certify.specs.Walking.{AreMarked}
use Rattle.a2_promise_certify.proofs.Marking.{more_marked}
use Rattle.a2_promise_certify.proofs.service_stores.mark_blocks_down.Goals as goal

pub loop-step-preserved : goal.loop-step-preserved
loop-step-preserved c =
    more_marked c.args.stored.now c.loop-step.stored c.mark_block.new.stored c.args.changes.now (λ row. block_cell row c.args.column ∷ [])
    c.args.first c.loop-step.step c.loop-step.invariant (c.mark_block.ensures c.if-not-mark_block.false)

pub returns : goal.returns
returns c = λ _.
    let cell : ℕ → ℕ = λ row. block_cell row c.args.column in
    let all : c.loop-step.step ≡ c.args.last - c.args.first + 1 =
    omega (arith, c.loop-step-test.false, c.loop-step.auto.step-end, c.saturating_sub-step-end.ensures) in
    subst (AreMarked c.args.stored.now c.loop-step.stored c.args.changes.now)
    (flat_map_single cell (numbers_from c.args.first c.loop-step.step) ∙ ap (λ count. map cell (numbers_from c.args.first count)) all)
    c.loop-step.invariant
