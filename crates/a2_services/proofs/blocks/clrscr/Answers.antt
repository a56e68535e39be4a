use Rattle.std.proofs.Common.{arith}
use Rattle.std.proofs.lemmas.Grind.{common_steps}
use Rattle.a2_bus.specs.View.{memory_of}
use Rattle.a2_bus.proofs.Viewing.{page1_is_grid}
use Rattle.a2_services.specs.Blocks.{black}
use Rattle.a2_services.specs.Services.{effect}
use Rattle.a2_services.proofs.Screens.{turning_first, black_is, black_more, black_all}
use Rattle.a2_services.proofs.blocks.clrscr.Goals as goal

pub loop-row-init : goal.loop-row-init
loop-row-init g c = turning_first black (memory_of c.args.space.now) 0 (page1_is_grid c.args.space.now)

pub loop-row-preserved : goal.loop-row-preserved
loop-row-preserved g c =
    black_more black (memory_of c.args.space.now) (memory_of c.loop-row.space) _ c.loop-row.row black_is (page1_is_grid c.args.space.now)
    c.loop-row.invariant (omega arith) c.fill_part.ensures

pub returns : goal.returns
unfolding effect
returns g c =
    let all =
    black_all black (memory_of c.args.space.now) (memory_of c.loop-row.space) c.loop-row.row black_is (page1_is_grid c.args.space.now)
    c.loop-row.invariant (omega arith) in
    record { left = grind (arith, common_steps); cycles = c.return_from.ensures.cycles; size = c.return_from.ensures.size }
