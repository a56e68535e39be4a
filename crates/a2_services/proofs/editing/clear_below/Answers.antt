use Rattle.std.proofs.Common.{sym, subst}
use Rattle.a2_bus.specs.View.{memory_of}
use Rattle.a2_services.specs.Fits.{CursorFits}
use Rattle.a2_services.proofs.Fitting.{page_fits}
use Rattle.a2_services.proofs.editing.clear_below.Goals as goal

pub returns-then-top-edges-clause-fits : goal.returns-then-top-edges-clause-fits
returns-then-top-edges-clause-fits g c = subst CursorFits (sym c.clear.ensures) (page_fits (memory_of c.args.space.now) _ c.requires)
