use Rattle.std.proofs.Common.{sym, subst, arith}
use Rattle.a2_bus.specs.View.{memory_of}
use Rattle.a2_services.specs.Fits.{CursorFits}
use Rattle.a2_services.proofs.Fitting.{other_fits, devices_fit}
use Rattle.a2_services.proofs.line.keep.Goals as goal

pub returns-clause-fits : goal.returns-clause-fits
returns-clause-fits g c =
    subst CursorFits (sym c.store.ensures) (other_fits _ _ c.args.byte (omega arith)
    (subst CursorFits (sym c.take_key.ensures) (devices_fit (memory_of c.args.space.now) _ c.requires)))
