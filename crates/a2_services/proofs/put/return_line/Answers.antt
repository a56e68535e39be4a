use Rattle.std.proofs.Common.{sym, subst}
use Rattle.a2_bus.specs.View.{memory_of}
use Rattle.a2_services.specs.Fits.{LineFits}
use Rattle.a2_services.proofs.Fitting.{column_line}
use Rattle.a2_services.proofs.put.return_line.Goals as goal

pub feed-requires : goal.feed-requires
feed-requires g c = subst LineFits (sym c.store.ensures) (column_line (memory_of c.args.space.now) 0 c.requires)
