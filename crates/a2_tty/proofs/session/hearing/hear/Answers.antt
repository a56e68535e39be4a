use Rattle.std.proofs.Common.{arith, ◌∙◌, sym}
use Rattle.std.proofs.lemmas.Bool.{false≢true}
use Rattle.a2_tty.proofs.Pieces.{heard-line, heard-long}
use Rattle.a2_tty.proofs.session.hearing.hear.Goals as goal

pub returns-then-len-gt-MOST_BYTES-clause-heard : goal.returns-then-len-gt-MOST_BYTES-clause-heard
returns-then-len-gt-MOST_BYTES-clause-heard g c =
    heard-long (g.R.Input.giver c.args.reader.now) (g.R.Input.giver c.read_piece.new.reader) c.in_ok-ending.ending c.read_piece.new.piece.items c.drop_return.new.line.items
    c.in_ok-ending.ensures.piece (λ h. false≢true (sym c.if-is_end_of_input.false ∙ c.is_end_of_input.ensures.1 h)) c.drop_return.ensures (omega (arith, c.len.ensures.value, c.if-len-gt-MOST_BYTES.true))

pub returns-else-len-gt-MOST_BYTES-clause-heard : goal.returns-else-len-gt-MOST_BYTES-clause-heard
returns-else-len-gt-MOST_BYTES-clause-heard g c =
    heard-line (g.R.Input.giver c.args.reader.now) (g.R.Input.giver c.read_piece.new.reader) c.in_ok-ending.ending c.read_piece.new.piece.items c.drop_return.new.line.items
    c.in_ok-ending.ensures.piece (λ h. false≢true (sym c.if-is_end_of_input.false ∙ c.is_end_of_input.ensures.1 h)) c.drop_return.ensures (omega (arith, c.len.ensures.value, c.if-len-gt-MOST_BYTES.false))
