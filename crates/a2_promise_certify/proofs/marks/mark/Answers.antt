use Rattle.std.proofs.Common.{sym, ◌∙◌}
use Rattle.a2_promise_certify.proofs.Marking.{one_marked}
use Rattle.a2_promise_certify.proofs.marks.mark.Goals as goal

pub returns : goal.returns
returns c = λ is.
    one_marked c.args.stored.now c.mark.new.self c.args.changes.now c.args.address (c.mark.ensures is)
    (sym c.is_allowed_at.ensures ∙ c.if-not-is_allowed_at.false) c.if-address-eq-LAST_RETURN.false c.if-address.false
