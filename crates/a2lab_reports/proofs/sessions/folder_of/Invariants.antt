use Rattle.std.proofs.Common.{length}
use Rattle.a2lab_reports.proofs.sessions.folder_of.Given as goal

abbrev pub decreases-loop-rest : goal.decreases-loop-rest
decreases-loop-rest l = length l.rest
