use Rattle.std.proofs.Common.{arith}
use Rattle.a2_text.proofs.NumberLaws.{number_in-grown}
use Rattle.a2_text.proofs.numbers.number_in.Goals as goal

pub returns-then-n-gt65535 : goal.returns-then-n-gt65535
returns-then-n-gt65535 c =
    number_in-grown c.args.base c.args.most c.loop-c.n c.loop-c.c-index c.args.digits.now c.requires.low (omega arith) c.loop-c.invariant.value (omega (arith, c.in-Some.ensures.1, c.from.ensures, c.from-in-Some.ensures, c.if-n-gt65535.true))
