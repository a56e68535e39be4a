use Rattle.a2_footprint.specs.Reads.{Knows}
use Rattle.a2_footprint.specs.Services.{cells_across}
use Rattle.a2_promise_certify.specs.Walking.{known_now}
use Rattle.a2_promise_certify.proofs.Ranges.{HoldsBelow}
use Rattle.a2_promise_certify.proofs.service_reads.is_window_known.Given as goal

abbrev pub invariant-loop-row : goal.invariant-loop-row
invariant-loop-row l =
    HoldsBelow (λ row. Knows (known_now l.known l.stored) (cells_across row l.cursor.left l.cursor.width)) l.cursor.top l.row
