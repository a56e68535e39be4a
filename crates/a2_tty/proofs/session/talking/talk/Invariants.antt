use Rattle.a2_tty.specs.Turns.{MeetsOr}
use Rattle.a2_tty.proofs.Answering.{SoFar}
use Rattle.a2_tty.proofs.session.talking.talk.Given as goal

-- the lines so far were answered
abbrev pub invariant-loop : goal.invariant-loop
invariant-loop g l =
    SoFar (MeetsOr g.P.Partner.meets) l.prompt l.fn.partner l.partner (g.R.Input.giver l.fn.reader) (g.R.Input.giver l.reader) (g.W.Output.taker l.fn.writer) (g.W.Output.taker l.writer)
