use Rattle.std.proofs.Common.{subst}
use Rattle.a2_page.specs.Cells.{numbers_from}
use Rattle.a2_footprint.specs.Services.{cells_across}
use Rattle.a2_promise_certify.specs.Walking.{AreMarked}
use Rattle.a2_promise_certify.proofs.Marking.{more_marked}
use Rattle.a2_promise_certify.proofs.service_stores.mark_window.Goals as goal

pub loop-step-preserved : goal.loop-step-preserved
loop-step-preserved c =
    let window = c.args.window.now in
    more_marked c.args.stored.now c.loop-step.stored c.mark_cells.new.stored c.args.changes.now
    (λ row. cells_across row window.left window.width) window.top c.loop-step.step c.loop-step.invariant
    (subst (λ first. AreMarked c.loop-step.stored c.mark_cells.new.stored c.args.changes.now (numbers_from first window.width))
    c.address-first.ensures (c.mark_cells.ensures c.if-not-mark_cells.false))
