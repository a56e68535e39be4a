use Rattle.std.proofs.Common.{arith}
use Rattle.a2_formats.proofs.DigitLaws.{digit_at}
use Rattle.a2_formats.proofs.digits.digit_value.Goals as goal

pub returns : goal.returns
returns c = rw c.from.ensures (digit_at c.args.c (omega arith))
