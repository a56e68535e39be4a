use Rattle.std.specs.Prelude.{◌≤◌, length, slice_set, false}
use Rattle.std.proofs.Common.{subst, sym}
use Rattle.a2_promise_certify.proofs.But.{Covers, following, cleared}
use Rattle.a2_promise_certify.proofs.stored.clear.Goals as goal

pub returns-then-place-marks : goal.returns-then-place-marks
returns-then-place-marks c = λ places covers.
    following c.args.address places c.args.marks.now (subst (λ n. length c.args.marks.now ≤ n) c.from-place.ensures c.if-place-marks.true) covers

pub returns : goal.returns
returns c = λ places covers.
    subst (λ place. Covers places (slice_set c.args.marks.now place false)) (sym c.from-place.ensures)
    (cleared c.args.address places c.args.marks.now covers)
