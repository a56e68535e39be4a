use Rattle.a2_history.proofs.Counting.{no-more}
use Rattle.a2_history.proofs.spacing.laws.no_more_are_kept.Goals as goal

pub returns : goal.returns
returns c = no-more
