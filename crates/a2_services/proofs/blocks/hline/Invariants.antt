use Rattle.a2_bus.specs.View.{memory_of}
use Rattle.a2_services.specs.Blocks.{painted}
use Rattle.a2_services.proofs.Painting.{IsStepped}
use Rattle.a2_services.proofs.blocks.hline.Given as goal

abbrev pub invariant-loop-column : goal.invariant-loop-column
invariant-loop-column g l =
    IsStepped (λ column memory. painted l.fn.live.a column memory) (memory_of l.fn.space) (memory_of l.space) l.fn.live.y l.column
