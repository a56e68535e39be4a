use Rattle.std.proofs.Common.{sym, subst, arith}
use Rattle.a2_promise_certify.specs.But.{IsEqualExcept}
use Rattle.a2_promise_certify.specs.Settling.{IsSettled}
use Rattle.a2_promise_certify.specs.States.{is_byte}
use Rattle.a2_promise_certify.proofs.But.{stored_one}
use Rattle.a2_promise_certify.proofs.Settling.{byte_laid}
use Rattle.a2_promise_certify.proofs.settled_bytes.write_settled.Goals as goal

pub returns-clause-laid : goal.returns-clause-laid
returns-clause-laid c = λ _.
    subst (λ input. IsSettled c.args.clauses.now c.args.among.now input c.write.new.self) (sym c.in-Byte.is)
    (byte_laid c.args.clauses.now c.args.among.now c.args.space.now c.write.new.self c.in-Byte.address c.in-Some.byte
    (omega (arith, c.if-address-ge-RAM_END.false, c.write.ensures.size)) c.write.ensures.left c.in-Some.ensures)

pub returns-clause-rest : goal.returns-clause-rest
returns-clause-rest c =
    subst (λ input. IsEqualExcept (λ a. is_byte a input) c.write.new.self c.args.space.now) (sym c.in-Byte.is)
    (stored_one c.args.space.now c.write.new.self c.in-Byte.address c.in-Some.byte
    (omega (arith, c.if-address-ge-RAM_END.false, c.write.ensures.size)) c.write.ensures.left)
