use Rattle.std.proofs.Common.{◌∙◌, refl, sym, ap, arith}
use Rattle.a2_formats.proofs.DigitLaws.{after_front, after_none, decoded, pairs_wrong, pairs_byte, pairs_end, pairs_half}
use Rattle.a2_formats.proofs.digits.read_pairs.Goals as goal

pub loop-rest-init : goal.loop-rest-init
loop-rest-init c = rw c.clear.ensures.items (after_none _ ∙ sym (decoded c.args.n c.args.digits.now))

pub returns-then-high-low-clause-refused : goal.returns-then-high-low-clause-refused
returns-then-high-low-clause-refused c =
    λ _. sym c.loop-rest.invariant
    ∙ ap (after_front _) (pairs_wrong c.args.n c.loop-rest.rest.now _ _ c.in-len2-up.len_at_least c.digit_value-high.ensures c.digit_value-low.ensures c.if-high-low.true)

pub loop-rest-preserved : goal.loop-rest-preserved
loop-rest-preserved c =
    rw c.in_ok-push.ensures.items (sym (pairs_byte c.args.n _ c.loop-rest.rest.now _ _ _ c.in-len2-up.len_at_least c.digit_value-high.ensures c.digit_value-low.ensures c.if-high-low.false refl) ∙ c.loop-rest.invariant)

pub returns-then-rest-gt0-clause-refused : goal.returns-then-rest-gt0-clause-refused
returns-then-rest-gt0-clause-refused c = λ _. sym c.loop-rest.invariant ∙ pairs_half c.args.n _ c.loop-rest.rest.now c.if-rest-gt0.true c.in_default.len_below

pub returns-clause-is : goal.returns-clause-is
returns-clause-is c = sym c.loop-rest.invariant ∙ pairs_end c.args.n _ c.loop-rest.rest.now (omega (arith, c.if-rest-gt0.false))
