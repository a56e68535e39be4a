use Rattle.std.proofs.Common.{arith}
use Rattle.a2_bus.specs.View.{memory_of}
use Rattle.a2_services.specs.Blocks.{painted}
use Rattle.a2_services.proofs.Painting.{stepped_more}
use Rattle.a2_services.proofs.blocks.hline.Goals as goal

pub loop-column-preserved : goal.loop-column-preserved
loop-column-preserved g c =
    let live = c.args.live.now in
    stepped_more (λ column memory. painted live.a column memory) (memory_of c.args.space.now) (memory_of c.loop-column.space) _ live.y c.loop-column.column
    c.loop-column.invariant (omega arith) c.paint.ensures
