use Rattle.std.specs.Prelude.{ℕ, List, ◌+◌, drop}
use Rattle.std.proofs.Common.{subst}
use Rattle.std.proofs.lemmas.List.{drop_all, drop_more}
use Rattle.a2_text.specs.Bytes.{is_among}
use Rattle.a2_promise_certify.specs.But.{IsEqualExcept}
use Rattle.a2_promise_certify.proofs.But.{Covers, same}
use Rattle.a2_promise_certify.proofs.stored.put_back_all.Goals as goal

pub loop-address-preserved : goal.loop-address-preserved
loop-address-preserved c =
    let places = c.args.places.now in
    let i = c.loop-address.address-index in
    let rest : List ℕ = drop (i + 1) places in
    let more = drop_more places i _ c.loop-address-test.true in (
      λ but. c.put_back.ensures (is_among rest)
          (subst (λ ns. IsEqualExcept (is_among ns) c.loop-address.space c.args.before.now) more (c.loop-address.invariant.0 but)),
      λ covers. c.clear.ensures rest (subst (λ ns. Covers ns c.loop-address.marks) more (c.loop-address.invariant.1 covers)),
    )

pub returns-clause-space : goal.returns-clause-space
returns-clause-space c = λ but.
    same c.loop-address.space c.args.before.now
    (subst (λ ns. IsEqualExcept (is_among ns) c.loop-address.space c.args.before.now)
    (drop_all c.loop-address.address-index c.args.places.now c.loop-address-test.false) (c.loop-address.invariant.0 but))
