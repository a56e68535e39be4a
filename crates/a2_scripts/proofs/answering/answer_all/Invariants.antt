use Rattle.std.proofs.Common.{map, drop}
use Rattle.a2_scripts.proofs.Replying.{IsFront}
use Rattle.a2_scripts.proofs.answering.answer_all.Given as goal

-- the lines so far were answered
abbrev pub invariant-loop-line : goal.invariant-loop-line
invariant-loop-line g l =
    IsFront g.S.LineAnswerer.meets l.mark g.S.LineAnswerer.Holds (map (λ x. x.now) l.lines) (drop l.line-index (map (λ x. x.now) l.lines)) (g.S.LineAnswerer.state l.fn.answering) (g.S.LineAnswerer.state l.answering)
    (g.W.Output.taker l.fn.writer) (g.W.Output.taker l.writer)
