use Rattle.std.proofs.Common.{◌≤◌}
use Rattle.a2lab_sources.proofs.checking.check_of.Given as goal

-- the status so far is one of the program's
abbrev pub invariant-loop-file : goal.invariant-loop-file
invariant-loop-file g l = l.status ≤ 5
