use Rattle.a2_tty.proofs.Pieces.{IsFront}
use Rattle.a2_tty.proofs.session.hearing.read_piece.Given as goal

-- what was read so far
abbrev pub invariant-loop : goal.invariant-loop
invariant-loop g l = IsFront (g.R.Input.giver l.fn.reader) (g.R.Input.giver l.reader) l.piece.items
