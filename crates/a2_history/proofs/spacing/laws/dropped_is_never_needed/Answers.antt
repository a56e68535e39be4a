use Rattle.a2_history.proofs.Nearness.{none-again}
use Rattle.a2_history.proofs.spacing.laws.dropped_is_never_needed.Goals as goal

pub returns : goal.returns
returns c = none-again
