use Rattle.std.proofs.Common.{sym, subst}
use Rattle.a2_bus.specs.View.{memory_of}
use Rattle.a2_services.specs.Fits.{LineFits}
use Rattle.a2_services.proofs.Fitting.{column_line, page_line}
use Rattle.a2_services.proofs.put.show.Goals as goal

pub return_line-requires : goal.return_line-requires
return_line-requires g c =
    subst LineFits (sym c.store.ensures) (column_line _ _ (subst LineFits (sym c.set_cell.ensures) (page_line (memory_of c.args.space.now) _ c.requires.line)))
