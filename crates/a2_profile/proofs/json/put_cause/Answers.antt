use Rattle.a2_stream.proofs.Joined.{broke_off, went_on}
use Rattle.a2_profile.proofs.json.put_cause.Goals as goal

pub returns-in_err-put : goal.returns-in_err-put
returns-in_err-put g c = broke_off _ _ c.from_residual.result _ _ c.from_residual.ensures.0 c.in_err-put.ensures

pub returns : goal.returns
returns g c =
    let r = c.put_all.result in
    went_on _ _ _ r _ _ c.in_ok-put.ensures (rw c.name.ensures at c.put_all.ensures)
