use Rattle.std.proofs.Common.{◌+◌, ◌≤◌, length, map, vec_len, vec_capacity}
use Rattle.a2_syntax.specs.Pieces.{Spells}
use Rattle.a2_syntax.proofs.Going.{Goes}
use Rattle.a2_syntax.proofs.piece.pieces.Given as goal

abbrev pub invariant-pieces : goal.invariant-pieces
invariant-pieces g l = record {
  reads : Goes Spells l.text l.rest (map (λ x. x.now) l.found.items);
  count : length l.found.items + length l.rest ≤ length l.text;
  room : vec_len l.found + length l.rest ≤ vec_capacity l.found;
}

abbrev pub decreases-pieces : goal.decreases-pieces
decreases-pieces g l = length l.rest
