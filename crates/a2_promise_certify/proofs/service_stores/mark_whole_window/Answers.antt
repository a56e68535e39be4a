use Rattle.std.proofs.Common.{sym, subst}
use Rattle.a2_footprint.specs.Services.{window_cells}
use Rattle.a2_promise_certify.specs.Walking.{AreMarked}
use Rattle.a2_promise_certify.proofs.service_stores.mark_whole_window.Goals as goal

pub returns-then-is_on_screen : goal.returns-then-is_on_screen
returns-then-is_on_screen c = λ is.
    subst (λ window. AreMarked c.args.stored.now c.mark_window.new.stored c.args.changes.now (window_cells window))
    (sym c.cursor_in.ensures.window) (c.mark_window.ensures is)
