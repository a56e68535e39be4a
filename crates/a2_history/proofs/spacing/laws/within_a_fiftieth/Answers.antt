use Rattle.a2_history.proofs.Nearness.{within-fiftieth}
use Rattle.a2_history.proofs.spacing.laws.within_a_fiftieth.Goals as goal

pub returns : goal.returns
returns c = within-fiftieth
