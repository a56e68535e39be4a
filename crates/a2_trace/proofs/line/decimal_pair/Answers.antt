use Rattle.std.proofs.Common.{arith}
use Rattle.a2_trace.proofs.Pairs.{decimal-at}
use Rattle.a2_trace.proofs.line.decimal_pair.Goals as goal

pub returns : goal.returns
returns c = rw (c.decimal_pairs-decimals.ensures, c.from-place.ensures) (decimal-at c.args.number (omega (arith, c.requires)))
