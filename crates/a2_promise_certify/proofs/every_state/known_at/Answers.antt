use Rattle.std.specs.Prelude.{ℕ, ◌||◌, ◌&&◌, ◌+◌, Bool, not, is_some}
use Rattle.std.specs.List.{list_any}
use Rattle.std.proofs.Common.{sym, subst, arith}
use Rattle.a2_hex.specs.Images.{held}
use Rattle.a2_footprint.specs.RotatedStack.{in_stack}
use Rattle.a2_promise_certify.specs.Certifying.{AreMarkedWhere}
use Rattle.a2_promise_certify.specs.States.{is_byte}
use Rattle.a2_promise_certify.proofs.Putting.{all_laid, none_laid, one_laid}
use Rattle.a2_promise_certify.proofs.every_state.known_at.Goals as goal

pub loop-address-init : goal.loop-address-init
loop-address-init c =
    none_laid (λ a. (list_any (is_byte a) c.args.inputs.now || is_some (held c.args.image.now a)) && not (in_stack a)) c.new-known.result.items c.new-known.ensures.items

pub loop-address-preserved : goal.loop-address-preserved
loop-address-preserved c =
    let test : ℕ → Bool = λ a. (list_any (is_byte a) c.args.inputs.now || is_some (held c.args.image.now a)) && not (in_stack a) in
    subst (λ marks. AreMarkedWhere test marks (c.loop-address.address + 1)) (sym c.in_ok-push.ensures.items)
    (one_laid test c.loop-address.known.items c.loop-address.address c.is_known_at.result (omega (arith, c.loop-address-test.true))
    c.is_known_at.ensures c.loop-address.invariant)

pub returns : goal.returns
returns c =
    all_laid (λ a. (list_any (is_byte a) c.args.inputs.now || is_some (held c.args.image.now a)) && not (in_stack a)) c.loop-address.known.items c.loop-address.address
    (omega (arith, c.loop-address-test.false)) c.loop-address.invariant
