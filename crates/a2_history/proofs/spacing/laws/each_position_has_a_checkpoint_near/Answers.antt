use Rattle.a2_history.proofs.Nearness.{each-near}
use Rattle.a2_history.proofs.spacing.laws.each_position_has_a_checkpoint_near.Goals as goal

pub returns : goal.returns
returns c = each-near
