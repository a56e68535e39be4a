use Rattle.a2_stream.proofs.Joined.{broke_off, went_on}
use Rattle.a2_profile.proofs.routine_table.write_routines.Goals as goal

pub returns-in_err-put_heading : goal.returns-in_err-put_heading
returns-in_err-put_heading g c = broke_off _ _ c.from_residual.result _ _ c.from_residual.ensures.0 c.in_err-put_heading.ensures

pub returns-in_err-put_itself : goal.returns-in_err-put_itself
returns-in_err-put_itself g c =
    let r = c.from_residual-in_err-put_itself in
    went_on _ _ _ r.result _ _ c.in_ok-put_heading.ensures (
    broke_off _ _ r.result _ _ r.ensures.0 c.in_err-put_itself.ensures)

pub returns-in_err-put_each : goal.returns-in_err-put_each
returns-in_err-put_each g c =
    let r = c.from_residual-in_err-put_each in
    went_on _ _ _ r.result _ _ c.in_ok-put_heading.ensures (
    went_on _ _ _ r.result _ _ c.in_ok-put_itself.ensures (
    broke_off _ _ r.result _ _ r.ensures.0 c.in_err-put_each.ensures))

pub returns : goal.returns
returns g c =
    let r = c.put_sum_line.result in
    went_on _ _ _ r _ _ c.in_ok-put_heading.ensures (
    went_on _ _ _ r _ _ c.in_ok-put_itself.ensures (
    went_on _ _ _ r _ _ c.in_ok-put_each.ensures (rw (c.steps.ensures, c.cycles.ensures) at c.put_sum_line.ensures)))
