use Rattle.a2_monitor.proofs.Copies.{each-moved, none-moved}
use Rattle.a2_monitor.proofs.laws.a_move_is_its_sources.Goals as goal

pub returns : goal.returns
returns c = record { each = each-moved; others = none-moved }
