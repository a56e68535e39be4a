use Rattle.std.proofs.Common.{sym, subst}
use Rattle.a2_bus.specs.View.{memory_of}
use Rattle.a2_services.specs.Fits.{CursorFits}
use Rattle.a2_services.proofs.Fitting.{page_fits}
use Rattle.a2_services.proofs.line.clear_to_end.Goals as goal

pub returns-clause-fits : goal.returns-clause-fits
returns-clause-fits g c = subst CursorFits (sym c.fill_part.ensures) (page_fits (memory_of c.args.space.now) _ c.requires)
