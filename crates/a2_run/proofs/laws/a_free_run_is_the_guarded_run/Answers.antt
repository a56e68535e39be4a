use Rattle.a2_run.proofs.FreeText.{free-same}
use Rattle.a2_run.proofs.laws.a_free_run_is_the_guarded_run.Goals as goal

pub returns : goal.returns
returns c = free-same
