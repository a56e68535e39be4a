use Rattle.std.specs.Prelude.{◌+◌, drop}
use Rattle.std.proofs.Common.{subst}
use Rattle.std.proofs.lemmas.List.{drop_all, drop_more}
use Rattle.a2_promise_certify.specs.But.{IsEqualExcept}
use Rattle.a2_promise_certify.specs.States.{has_byte}
use Rattle.a2_promise_certify.proofs.But.{same}
use Rattle.a2_promise_certify.proofs.entry_states.put_back_inputs.Goals as goal

pub loop-input-preserved : goal.loop-input-preserved
loop-input-preserved c = λ but.
    let inputs = c.args.inputs.now in
    let i = c.loop-input.input-index in
    c.put_back_input.ensures (has_byte (drop (i + 1) inputs))
    (subst (λ left. IsEqualExcept (has_byte left) c.loop-input.space c.args.other.now) (drop_more inputs i _ c.loop-input-test.true)
    (c.loop-input.invariant but))

pub returns : goal.returns
returns c = λ but.
    same c.loop-input.space c.args.other.now
    (subst (λ left. IsEqualExcept (has_byte left) c.loop-input.space c.args.other.now)
    (drop_all c.loop-input.input-index c.args.inputs.now c.loop-input-test.false) (c.loop-input.invariant but))
