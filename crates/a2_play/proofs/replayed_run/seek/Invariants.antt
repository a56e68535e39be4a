use Rattle.a2_asm.specs.Assembled.{Assembled}
use Rattle.a2_play.specs.Agains.{IsReplaying, HasFewerCycles}
use Rattle.a2_play.proofs.Remade.{IsSeeking}
use Rattle.a2_play.proofs.replayed_run.seek.Given as goal

-- the state after at most this many pieces
abbrev pub invariant-loop : goal.invariant-loop
invariant-loop g l =
    (program : Assembled) → IsReplaying program l.log l.end l.fn.machine.state → HasFewerCycles program l.log l.goal l.fn.machine.state.steps
    → IsSeeking program l.log l.goal l.end l.piece l.counter l.before l.machine.state
