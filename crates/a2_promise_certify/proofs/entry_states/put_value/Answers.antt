use Rattle.std.proofs.Common.{ap, sym, subst, ◌∙◌, arith}
use Rattle.a2_effect.specs.View.{registers_of}
use Rattle.a2_services.specs.World.{world_of}
use Rattle.a2_promise_certify.specs.But.{IsEqualExcept}
use Rattle.a2_promise_certify.specs.States.{is_byte, with_value}
use Rattle.a2_promise_certify.proofs.But.{stored_one}
use Rattle.a2_promise_certify.proofs.Putting.{byte_put}
use Rattle.a2_promise_certify.proofs.entry_states.put_value.Goals as goal

pub returns-in-Byte-clause-world : goal.returns-in-Byte-clause-world
returns-in-Byte-clause-world c = λ _.
    byte_put (registers_of c.args.regs.now) c.args.space.now c.write.new.self c.in-Byte.address c.args.value c.write.ensures.size
    (omega (arith, c.if-address-ge-RAM_END.false)) c.write.ensures.left
    ∙ ap (λ input. with_value input c.args.value (world_of (registers_of c.args.regs.now) c.args.space.now 0)) (sym c.in-Byte.is)

pub returns-in-Byte-clause-rest : goal.returns-in-Byte-clause-rest
returns-in-Byte-clause-rest c =
    subst (λ input. IsEqualExcept (λ a. is_byte a input) c.write.new.self c.args.space.now) (sym c.in-Byte.is)
    (stored_one c.args.space.now c.write.new.self c.in-Byte.address c.args.value
    (omega (arith, c.if-address-ge-RAM_END.false, c.write.ensures.size)) c.write.ensures.left)
