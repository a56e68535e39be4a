use Rattle.std.proofs.Common.{arith}
use Rattle.a2_trace.proofs.Pairs.{pair-at}
use Rattle.a2_trace.proofs.line.hex_pair.Goals as goal

pub returns : goal.returns
returns c = rw (c.hex_pairs-pairs.ensures, c.from-place.ensures) (pair-at c.args.byte (omega arith))
