use Rattle.a2_stream.proofs.Joined.{broke_off, went_on}
use Rattle.a2_profile.proofs.routine_json.put_routine.Goals as goal

pub returns-in_err-put : goal.returns-in_err-put
returns-in_err-put g c = broke_off _ _ c.from_residual.result _ _ c.from_residual.ensures.0 c.in_err-put.ensures

pub returns-in_err-put_string : goal.returns-in_err-put_string
returns-in_err-put_string g c =
    let r = c.from_residual-in_err-put_string in
    went_on _ _ _ r.result _ _ c.in_ok-put.ensures (
    broke_off _ _ r.result _ _ r.ensures.0 (rw c.name_of.ensures at c.in_err-put_string.ensures))

pub returns-in_err-put_entry : goal.returns-in_err-put_entry
returns-in_err-put_entry g c =
    let r = c.from_residual-in_err-put_entry in
    went_on _ _ _ r.result _ _ c.in_ok-put.ensures (
    went_on _ _ _ r.result _ _ (rw c.name_of.ensures at c.in_ok-put_string.ensures) (
    broke_off _ _ r.result _ _ r.ensures.0 (rw c.at-totals.ensures.value at c.in_err-put_entry.ensures)))

pub returns : goal.returns
returns g c =
    let r = c.put_totals.result in
    went_on _ _ _ r _ _ c.in_ok-put.ensures (
    went_on _ _ _ r _ _ (rw c.name_of.ensures at c.in_ok-put_string.ensures) (
    went_on _ _ _ r _ _ (rw c.at-totals.ensures.value at c.in_ok-put_entry.ensures) (rw c.at-totals.ensures.value at c.put_totals.ensures)))
