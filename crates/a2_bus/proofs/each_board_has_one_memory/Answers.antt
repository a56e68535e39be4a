use Rattle.a2_bus.proofs.Knowing.{each_board_has_one_memory}
use Rattle.a2_bus.proofs.each_board_has_one_memory.Goals as goal

pub returns : goal.returns
returns c = each_board_has_one_memory
