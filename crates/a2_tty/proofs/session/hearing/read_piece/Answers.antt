use Rattle.std.proofs.Common.{arith}
use Rattle.a2_tty.proofs.Pieces.{front-more, feed-came, end-came}
use Rattle.a2_tty.proofs.session.hearing.read_piece.Goals as goal

pub returns-then-count-eq0-clause-piece : goal.returns-then-count-eq0-clause-piece
returns-then-count-eq0-clause-piece g c =
    end-came (g.R.Input.giver c.args.reader.now) (g.R.Input.giver c.loop.reader) (g.R.Input.giver c.read.new.self) c.loop.piece.items c.read.new.buffer c.in_ok-count.count
    c.loop.invariant c.in_ok-count.ensures (omega (arith, c.read.auto.buffer)) c.if-count-eq0.true

pub returns-then-code-eq10-clause-piece : goal.returns-then-code-eq10-clause-piece
returns-then-code-eq10-clause-piece g c =
    feed-came (g.R.Input.giver c.args.reader.now) (g.R.Input.giver c.loop.reader) (g.R.Input.giver c.read.new.self) c.loop.piece.items c.read.new.buffer c.in_ok-count.count
    c.loop.invariant c.in_ok-count.ensures (omega (arith, c.read.auto.buffer)) c.if-count-eq0.false c.if-code-eq10.true

pub loop-preserved : goal.loop-preserved
loop-preserved g c =
    front-more (g.R.Input.giver c.args.reader.now) (g.R.Input.giver c.loop.reader) (g.R.Input.giver c.read.new.self) c.loop.piece.items c.keep.new.piece.items c.read.new.buffer
    c.in_ok-count.count c.loop.invariant c.in_ok-count.ensures (omega (arith, c.read.auto.buffer)) c.if-count-eq0.false c.if-code-eq10.false c.keep.ensures.room c.keep.ensures.full
