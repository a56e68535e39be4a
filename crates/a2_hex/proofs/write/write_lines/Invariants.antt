use Rattle.a2_hex.specs.Images.{held}
use Rattle.a2_hex.proofs.WriteLaws.{IsGathered}
use Rattle.a2_hex.proofs.write.write_lines.Given as goal

-- the lines below the address are sent or gathered
abbrev pub invariant-loop-address : goal.invariant-loop-address
invariant-loop-address g l = IsGathered (g.W.Output.taker l.fn.writer) (g.W.Output.taker l.writer) (held l.image) l.address l.piece.items
