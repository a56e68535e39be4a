use Rattle.a2_stream.proofs.Joined.{broke_off, went_on}
use Rattle.a2_profile.proofs.routine_json.write_routine_json.Goals as goal

pub returns-in_err-put_sums : goal.returns-in_err-put_sums
returns-in_err-put_sums g c = broke_off _ _ c.from_residual.result _ _ c.from_residual.ensures.0 (rw (c.steps.ensures, c.cycles.ensures) at c.in_err-put_sums.ensures)

pub returns-in_err-put_causes : goal.returns-in_err-put_causes
returns-in_err-put_causes g c =
    let r = c.from_residual-in_err-put_causes in
    went_on _ _ _ r.result _ _ (rw (c.steps.ensures, c.cycles.ensures) at c.in_ok-put_sums.ensures) (
    broke_off _ _ r.result _ _ r.ensures.0 c.in_err-put_causes.ensures)

pub returns-in_err-put_totals : goal.returns-in_err-put_totals
returns-in_err-put_totals g c =
    let r = c.from_residual-in_err-put_totals in
    went_on _ _ _ r.result _ _ (rw (c.steps.ensures, c.cycles.ensures) at c.in_ok-put_sums.ensures) (
    went_on _ _ _ r.result _ _ c.in_ok-put_causes.ensures (
    broke_off _ _ r.result _ _ r.ensures.0 (rw c.itself.ensures.value at c.in_err-put_totals.ensures)))

pub returns-in_err-put_routines : goal.returns-in_err-put_routines
returns-in_err-put_routines g c =
    let r = c.from_residual-in_err-put_routines in
    went_on _ _ _ r.result _ _ (rw (c.steps.ensures, c.cycles.ensures) at c.in_ok-put_sums.ensures) (
    went_on _ _ _ r.result _ _ c.in_ok-put_causes.ensures (
    went_on _ _ _ r.result _ _ (rw c.itself.ensures.value at c.in_ok-put_totals.ensures) (
    broke_off _ _ r.result _ _ r.ensures.0 (rw c.names.ensures at c.in_err-put_routines.ensures))))

pub returns : goal.returns
returns g c =
    let r = c.put.result in
    went_on _ _ _ r _ _ (rw (c.steps.ensures, c.cycles.ensures) at c.in_ok-put_sums.ensures) (
    went_on _ _ _ r _ _ c.in_ok-put_causes.ensures (
    went_on _ _ _ r _ _ (rw c.itself.ensures.value at c.in_ok-put_totals.ensures) (
    went_on _ _ _ r _ _ (rw c.names.ensures at c.in_ok-put_routines.ensures) c.put.ensures)))
