use Rattle.std.specs.Prelude.{◌∷◌, []}
use Rattle.std.specs.List.{flat_map}
use Rattle.a2_page.specs.Cells.{numbers_from}
use Rattle.a2_footprint.specs.Services.{block_cell}
use Rattle.a2_promise_certify.specs.Walking.{AreMarked}
use Rattle.a2_promise_certify.proofs.service_stores.mark_blocks_down.Given as goal

abbrev pub invariant-loop-step : goal.invariant-loop-step
invariant-loop-step l =
    AreMarked l.fn.stored l.stored l.changes (flat_map (λ row. block_cell row l.column ∷ []) (numbers_from l.first l.step))
