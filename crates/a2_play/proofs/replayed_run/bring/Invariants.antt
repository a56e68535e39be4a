use Rattle.std.proofs.Common.{ℕ, ◌≤◌}
use Rattle.a2_asm.specs.Assembled.{Assembled}
use Rattle.a2_play.specs.Agains.{IsReplaying}
use Rattle.a2_play.proofs.replayed_run.bring.Given as goal

-- At least one step was executed for each iteration.
abbrev pub invariant-loop : goal.invariant-loop
invariant-loop g l =
    (program : Assembled) (last : ℕ) → IsReplaying program l.log last l.fn.machine.state → l.position ≤ last → l.fn.machine.state.steps ≤ l.position
    → IsReplaying program l.log last l.machine.state × (l.counter ≤ l.machine.state.steps) × (l.machine.state.steps ≤ l.position)
