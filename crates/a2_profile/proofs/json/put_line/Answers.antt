use Rattle.a2_stream.proofs.Joined.{broke_off, went_on}
use Rattle.a2_profile.proofs.json.put_line.Goals as goal

pub returns-in_err-put : goal.returns-in_err-put
returns-in_err-put g c = broke_off _ _ c.from_residual.result _ _ c.from_residual.ensures.0 c.in_err-put.ensures

pub returns-in_err-put_head : goal.returns-in_err-put_head
returns-in_err-put_head g c =
    let r = c.from_residual-in_err-put_head in
    went_on _ _ _ r.result _ _ c.in_ok-put.ensures (
    broke_off _ _ r.result _ _ r.ensures.0 c.in_err-put_head.ensures)

pub returns-in_err-put_statement : goal.returns-in_err-put_statement
returns-in_err-put_statement g c =
    let r = c.from_residual-in_err-put_statement in
    went_on _ _ _ r.result _ _ c.in_ok-put.ensures (
    went_on _ _ _ r.result _ _ c.in_ok-put_head.ensures (
    broke_off _ _ r.result _ _ r.ensures.0 c.in_err-put_statement.ensures))

pub returns : goal.returns
returns g c =
    let r = c.put_string.result in
    went_on _ _ _ r _ _ c.in_ok-put.ensures (
    went_on _ _ _ r _ _ c.in_ok-put_head.ensures (
    went_on _ _ _ r _ _ c.in_ok-put_statement.ensures c.put_string.ensures))
