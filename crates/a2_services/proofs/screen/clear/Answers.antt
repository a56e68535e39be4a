use Rattle.std.proofs.Common.{arith}
use Rattle.a2_bus.specs.View.{memory_of}
use Rattle.a2_bus.proofs.Viewing.{page1_is_grid}
use Rattle.a2_page.specs.Grid.{cleared}
use Rattle.a2_services.specs.Fits.{window_at}
use Rattle.a2_services.proofs.Screens.{turning_first, clear_more, clear_all}
use Rattle.a2_services.proofs.screen.clear.Goals as goal

pub loop-row-init : goal.loop-row-init
loop-row-init g c =
    let m = memory_of c.args.space.now in
    turning_first (cleared (window_at c.args.edges) m.page1) m c.args.edges.top (page1_is_grid c.args.space.now)

pub loop-row-preserved : goal.loop-row-preserved
loop-row-preserved g c =
    clear_more (window_at c.args.edges) (memory_of c.args.space.now) (memory_of c.loop-row.space) _ c.loop-row.row c.requires
    (page1_is_grid c.args.space.now) c.loop-row.invariant (omega arith) (omega arith) c.fill_part.ensures

pub returns : goal.returns
returns g c =
    clear_all (window_at c.args.edges) (memory_of c.args.space.now) (memory_of c.loop-row.space) c.loop-row.row c.requires
    (page1_is_grid c.args.space.now) c.loop-row.invariant (omega arith)
