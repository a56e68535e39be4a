use Rattle.std.specs.Prelude.{◌++◌}
use Rattle.std.proofs.Common.{subst}
use Rattle.a2_bus.specs.View.{memory_of}
use Rattle.a2_effect.specs.View.{registers_of}
use Rattle.a2_services.specs.declared.rows.Row.{Row}
use Rattle.a2_footprint.specs.Services.{bytes_set, cells_changed, service_stores}
use Rattle.a2_promise_certify.specs.Walking.{AreMarked}
use Rattle.a2_promise_certify.proofs.Marking.{both_marked}
use Rattle.a2_promise_certify.proofs.service_stores.mark_places.Goals as goal

pub returns-then-mark_each : goal.returns-then-mark_each
unfolding service_stores
returns-then-mark_each c = λ is before.
    let old = c.args.stored.now in
    let new = c.mark_changed.new.stored in
    let changes = c.args.changes.now in
    let changed = λ (row : Row). cells_changed row.on_screen (registers_of c.args.regs.now) (memory_of c.args.space.now) in
    subst (λ (row : Row). AreMarked old new changes (bytes_set row.reach ++ changed row)) c.row_of-row.ensures
    (both_marked old c.mark_each.new.stored new changes (bytes_set c.row_of-row.result.reach) (changed c.row_of-row.result)
    (subst (AreMarked old c.mark_each.new.stored changes) c.bytes_set.ensures (c.mark_each.ensures c.if-mark_each.true))
    (c.mark_changed.ensures is))
