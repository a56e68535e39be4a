use Rattle.a2_bus.specs.View.{memory_of}
use Rattle.a2_services.specs.Blocks.{painted}
use Rattle.a2_services.proofs.Painting.{IsStepped}
use Rattle.a2_services.proofs.blocks.vline.Given as goal

abbrev pub invariant-loop-row : goal.invariant-loop-row
invariant-loop-row g l =
    IsStepped (λ row memory. painted row l.fn.live.y memory) (memory_of l.fn.space) (memory_of l.space) l.fn.live.a l.row
