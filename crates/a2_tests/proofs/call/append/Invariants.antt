use Rattle.std.proofs.Common.{◌≡◌, ◌++◌, drop}
use Rattle.std.specs.List.{flat_map}
use Rattle.a2_tests.proofs.call.append.Given as goal

abbrev pub invariant-loop-piece : goal.invariant-loop-piece
invariant-loop-piece g l = l.text.items ++ flat_map (λ piece. piece.now) (drop l.piece-index l.pieces) ≡ l.fn.text.items ++ flat_map (λ piece. piece.now) l.pieces
