use Rattle.std.proofs.Common.{arith}
use Rattle.a2_debug_script.proofs.Numbers.{number_of-grown}
use Rattle.a2_debug_script.proofs.commands.number_of.Goals as goal

pub returns-then-n-gt4294967295 : goal.returns-then-n-gt4294967295
returns-then-n-gt4294967295 c =
    number_of-grown c.loop-c.n c.loop-c.c-index c.args.digits.now (omega arith) c.loop-c.invariant.value
    (omega (arith, c.in-Some.ensures.1, c.from.ensures, c.if-n-gt4294967295.true))
