use Rattle.a2_stream.proofs.Joined.{broke_off, went_on}
use Rattle.a2_profile.proofs.json.write_json.Goals as goal

pub returns-in_err-put_sums : goal.returns-in_err-put_sums
returns-in_err-put_sums g c = broke_off _ _ c.from_residual.result _ _ c.from_residual.ensures.0 (rw (c.steps.ensures, c.cycles.ensures) at c.in_err-put_sums.ensures)

pub returns-in_err-put_causes : goal.returns-in_err-put_causes
returns-in_err-put_causes g c =
    let r = c.from_residual-in_err-put_causes in
    went_on _ _ _ r.result _ _ (rw (c.steps.ensures, c.cycles.ensures) at c.in_ok-put_sums.ensures) (
    broke_off _ _ r.result _ _ r.ensures.0 c.in_err-put_causes.ensures)

pub returns-in_err-put_lines : goal.returns-in_err-put_lines
returns-in_err-put_lines g c =
    let r = c.from_residual-in_err-put_lines in
    went_on _ _ _ r.result _ _ (rw (c.steps.ensures, c.cycles.ensures) at c.in_ok-put_sums.ensures) (
    went_on _ _ _ r.result _ _ c.in_ok-put_causes.ensures (
    broke_off _ _ r.result _ _ r.ensures.0 (rw c.statements-statements.ensures at c.in_err-put_lines.ensures)))

pub returns-in_err-put_outsides : goal.returns-in_err-put_outsides
returns-in_err-put_outsides g c =
    let r = c.from_residual-in_err-put_outsides in
    went_on _ _ _ r.result _ _ (rw (c.steps.ensures, c.cycles.ensures) at c.in_ok-put_sums.ensures) (
    went_on _ _ _ r.result _ _ c.in_ok-put_causes.ensures (
    went_on _ _ _ r.result _ _ (rw c.statements-statements.ensures at c.in_ok-put_lines.ensures) (
    broke_off _ _ r.result _ _ r.ensures.0 c.in_err-put_outsides.ensures)))

pub returns-in_err-put_never : goal.returns-in_err-put_never
returns-in_err-put_never g c =
    let r = c.from_residual-in_err-put_never in
    went_on _ _ _ r.result _ _ (rw (c.steps.ensures, c.cycles.ensures) at c.in_ok-put_sums.ensures) (
    went_on _ _ _ r.result _ _ c.in_ok-put_causes.ensures (
    went_on _ _ _ r.result _ _ (rw c.statements-statements.ensures at c.in_ok-put_lines.ensures) (
    went_on _ _ _ r.result _ _ c.in_ok-put_outsides.ensures (
    broke_off _ _ r.result _ _ r.ensures.0 (rw c.statements-statements.ensures at c.in_err-put_never.ensures)))))

pub returns : goal.returns
returns g c =
    let r = c.put.result in
    went_on _ _ _ r _ _ (rw (c.steps.ensures, c.cycles.ensures) at c.in_ok-put_sums.ensures) (
    went_on _ _ _ r _ _ c.in_ok-put_causes.ensures (
    went_on _ _ _ r _ _ (rw c.statements-statements.ensures at c.in_ok-put_lines.ensures) (
    went_on _ _ _ r _ _ c.in_ok-put_outsides.ensures (
    went_on _ _ _ r _ _ (rw c.statements-statements.ensures at c.in_ok-put_never.ensures) c.put.ensures))))
