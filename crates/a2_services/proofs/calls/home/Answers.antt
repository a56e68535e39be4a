use Rattle.std.proofs.Common.{◌≡◌, arith, sym, subst}
use Rattle.a2_page.specs.Grid.{cleared}
use Rattle.a2_bus.specs.View.{memory_of}
use Rattle.a2_services.specs.Fits.{LineFits}
use Rattle.a2_services.specs.Put.{window_of, with_cursor_column, with_cursor_row, with_page1}
use Rattle.a2_services.proofs.Fitting.{home_line}
use Rattle.a2_services.proofs.calls.home.Goals as goal

pub end_output-requires : goal.end_output-requires
end_output-requires g c =
    let m = memory_of c.args.space.now in
    let page = cleared (window_of m) m.page1 in
    let made : memory_of c.store-2.new.space ≡ with_cursor_row (window_of m).top (with_cursor_column 0 (with_page1 page m)) = grind arith in
    subst LineFits (sym made) (home_line m page c.requires)
