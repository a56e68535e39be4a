use Rattle.a2_footprint.proofs.Boards as theorem
use Rattle.a2_footprint.proofs.laws.boards_read_as_their_memory.Goals as goal

pub returns : goal.returns
returns c = theorem.boards
