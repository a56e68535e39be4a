use Rattle.std.proofs.Common.{length}
use Rattle.a2_monitor_session.proofs.Besides.{Sofar}
use Rattle.a2_monitor_session.proofs.beside.with_source_beside.Given as goal

-- the lines so far, with their notes
abbrev pub invariant-loop-rest : goal.invariant-loop-rest
invariant-loop-rest g l = Sofar l.text l.whole.items l.rest

abbrev pub decreases-loop-rest : goal.decreases-loop-rest
decreases-loop-rest g l = length l.rest
