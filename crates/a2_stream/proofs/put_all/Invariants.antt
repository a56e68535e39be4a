use Rattle.std.proofs.Common.{take}
use Rattle.std.specs.List.{flat_map}
use Rattle.a2_stream.specs.Stream.{Sends}
use Rattle.a2_stream.proofs.put_all.Given as goal

-- the pieces so far were sent
abbrev pub invariant-loop-piece : goal.invariant-loop-piece
invariant-loop-piece g l =
    Sends (g.W.Output.taker l.fn.writer) (g.W.Output.taker l.writer) (flat_map (λ piece. piece.now) (take l.piece-index l.pieces))
