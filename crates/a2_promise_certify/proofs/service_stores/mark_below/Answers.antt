use Rattle.std.specs.Prelude.{◌≡◌, ◌+◌}
use Rattle.std.proofs.Common.{sym, ap, subst, ◌∙◌}
use Rattle.a2_bus.specs.View.{memory_of}
use Rattle.a2_services.specs.Put.{cursor_row}
use Rattle.a2_footprint.specs.Services.{cells_below, cells_to_end, window_cells}
use Rattle.a2_promise_certify.specs.Screen.{IsCursor, window_by}
use Rattle.a2_promise_certify.specs.Walking.{AreMarked}
use Rattle.a2_promise_certify.proofs.Marking.{both_marked}
use Rattle.a2_promise_certify.proofs.service_stores.mark_below.Goals as goal

pub returns-then-mark_to_end : goal.returns-then-mark_to_end
returns-then-mark_to_end c = λ is.
    let memory = memory_of c.args.space.now in
    let cursor = c.in-Some.cursor in
    let lies : IsCursor cursor memory = c.in-Some.ensures.0 in
    let below : window_cells (window_by (record cursor { top = cursor.row + 1 })) ≡ cells_below memory =
    ap (λ row. window_cells (record (window_by cursor) { top = row + 1 })) (sym lies.row)
    ∙ ap (λ window. window_cells (record window { top = cursor_row memory + 1 })) (sym lies.window) in
    both_marked c.args.stored.now c.mark_to_end.new.stored c.mark_window.new.stored c.args.changes.now (cells_to_end memory) (cells_below memory)
    (c.mark_to_end.ensures c.if-mark_to_end.true memory lies)
    (subst (AreMarked c.mark_to_end.new.stored c.mark_window.new.stored c.args.changes.now) below (c.mark_window.ensures is))
