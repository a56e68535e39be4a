use Rattle.a2_stream.proofs.Joined.{broke_off, went_on}
use Rattle.a2_profile.proofs.table.write_profile.Goals as goal

pub returns-in_err-put_heading : goal.returns-in_err-put_heading
returns-in_err-put_heading g c = broke_off _ _ c.from_residual.result _ _ c.from_residual.ensures.0 c.in_err-put_heading.ensures

pub returns-in_err-put_lines : goal.returns-in_err-put_lines
returns-in_err-put_lines g c =
    let r = c.from_residual-in_err-put_lines in
    went_on _ _ _ r.result _ _ c.in_ok-put_heading.ensures (
    broke_off _ _ r.result _ _ r.ensures.0 (rw c.statements-statements.ensures at c.in_err-put_lines.ensures))

pub returns-in_err-put_each : goal.returns-in_err-put_each
returns-in_err-put_each g c =
    let r = c.from_residual-in_err-put_each in
    went_on _ _ _ r.result _ _ c.in_ok-put_heading.ensures (
    went_on _ _ _ r.result _ _ (rw c.statements-statements.ensures at c.in_ok-put_lines.ensures) (
    broke_off _ _ r.result _ _ r.ensures.0 c.in_err-put_each.ensures))

pub returns-in_err-put_never_rows : goal.returns-in_err-put_never_rows
returns-in_err-put_never_rows g c =
    let r = c.from_residual-in_err-put_never_rows in
    went_on _ _ _ r.result _ _ c.in_ok-put_heading.ensures (
    went_on _ _ _ r.result _ _ (rw c.statements-statements.ensures at c.in_ok-put_lines.ensures) (
    went_on _ _ _ r.result _ _ c.in_ok-put_each.ensures (
    broke_off _ _ r.result _ _ r.ensures.0 (rw c.statements-statements.ensures at c.in_err-put_never_rows.ensures))))

pub returns : goal.returns
returns g c =
    let r = c.put_sum_line.result in
    went_on _ _ _ r _ _ c.in_ok-put_heading.ensures (
    went_on _ _ _ r _ _ (rw c.statements-statements.ensures at c.in_ok-put_lines.ensures) (
    went_on _ _ _ r _ _ c.in_ok-put_each.ensures (
    went_on _ _ _ r _ _ (rw c.statements-statements.ensures at c.in_ok-put_never_rows.ensures) (rw (c.steps.ensures, c.cycles.ensures) at c.put_sum_line.ensures))))
