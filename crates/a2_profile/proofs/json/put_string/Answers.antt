use Rattle.a2_profile.specs.Json.{string_field}
use Rattle.a2_stream.proofs.Joined.{broke_off, went_on}
use Rattle.a2_profile.proofs.json.put_string.Goals as goal

pub returns-in_err-put : goal.returns-in_err-put
unfolding string_field
returns-in_err-put g c = broke_off _ _ c.from_residual.result _ _ c.from_residual.ensures.0 c.in_err-put.ensures

pub returns-in_err-put_escapes : goal.returns-in_err-put_escapes
unfolding string_field
returns-in_err-put_escapes g c =
    let r = c.from_residual-in_err-put_escapes in
    went_on _ _ _ r.result _ _ c.in_ok-put.ensures (
    broke_off _ _ r.result _ _ r.ensures.0 c.in_err-put_escapes.ensures)

pub returns : goal.returns
unfolding string_field
returns g c =
    let r = c.put-2.result in
    went_on _ _ _ r _ _ c.in_ok-put.ensures (
    went_on _ _ _ r _ _ c.in_ok-put_escapes.ensures c.put-2.ensures)
