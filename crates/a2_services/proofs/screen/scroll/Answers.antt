use Rattle.std.proofs.Common.{◌≡◌, ◌∙◌, ◌-◌, ap, arith, replicate}
use Rattle.a2_bus.specs.View.{memory_of}
use Rattle.a2_bus.proofs.Viewing.{page1_is_grid}
use Rattle.a2_page.specs.Grid.{scrolled, with_row_part, blank}
use Rattle.a2_services.specs.Fits.{window_at}
use Rattle.a2_services.specs.Put.{with_page1}
use Rattle.a2_services.proofs.Screens.{turning_first, scroll_more, scroll_all}
use Rattle.a2_services.proofs.screen.scroll.Goals as goal

pub loop-row-init : goal.loop-row-init
loop-row-init g c =
    let m = memory_of c.args.space.now in
    turning_first (scrolled (window_at c.args.edges) m.page1) m c.args.edges.top (page1_is_grid c.args.space.now)

pub loop-row-preserved : goal.loop-row-preserved
loop-row-preserved g c =
    scroll_more (window_at c.args.edges) (memory_of c.args.space.now) (memory_of c.loop-row.space) _ c.loop-row.row c.requires
    (page1_is_grid c.args.space.now) c.loop-row.invariant (omega arith) (omega arith) c.copy_up.ensures

pub returns : goal.returns
returns g c =
    let n = memory_of c.loop-row.space in
    let e : c.args.edges.bottom - 1 ≡ c.loop-row.row = omega arith in
    scroll_all (window_at c.args.edges) (memory_of c.args.space.now) n (memory_of c.fill_part.new.space) c.loop-row.row c.requires
    (page1_is_grid c.args.space.now) c.loop-row.invariant (omega arith)
    (c.fill_part.ensures ∙ ap (λ row. with_page1 (with_row_part n.page1 row c.args.edges.left (replicate c.args.edges.width blank)) n) e)
