use Rattle.std.proofs.Common.{arith, rules}
use Rattle.a2_stream.proofs.Joined.{broke, broke_within}
use Rattle.a2_stream.proofs.put_all.Goals as goal

pub returns-in_err-put : goal.returns-in_err-put
returns-in_err-put g c =
    broke _ _ _ _ (search rules)
    (broke_within (λ piece. piece.now) c.args.pieces.now c.loop-piece.piece-index _ _ _ _ (omega arith) c.loop-piece.invariant c.in_err-put.ensures)
