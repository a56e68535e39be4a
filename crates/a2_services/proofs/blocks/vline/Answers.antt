use Rattle.std.proofs.Common.{arith}
use Rattle.a2_bus.specs.View.{memory_of}
use Rattle.a2_services.specs.Blocks.{painted}
use Rattle.a2_services.proofs.Painting.{stepped_more}
use Rattle.a2_services.proofs.blocks.vline.Goals as goal

pub loop-row-preserved : goal.loop-row-preserved
loop-row-preserved g c =
    let live = c.args.live.now in
    stepped_more (λ row memory. painted row live.y memory) (memory_of c.args.space.now) (memory_of c.loop-row.space) _ live.a c.loop-row.row
    c.loop-row.invariant (omega arith) c.paint.ensures
