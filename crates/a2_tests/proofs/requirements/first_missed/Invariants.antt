use Rattle.std.proofs.Common.{ℕ, ◌<◌, drop}
use Rattle.a2_tests.specs.Requirements.{MeetsFirst, end_at}
use Rattle.a2_tests.proofs.requirements.first_missed.Given as goal

-- the lines so far are met
abbrev pub invariant-loop-index : goal.invariant-loop-index
invariant-loop-index g l = (k : ℕ) → k < l.index → MeetsFirst (drop k l.lines) l.ending.program.now (end_at l.ending.machine.now.state l.ending.cause)
