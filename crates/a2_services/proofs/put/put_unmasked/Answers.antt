use Rattle.std.proofs.Common.{sym, subst}
use Rattle.a2_bus.specs.View.{memory_of}
use Rattle.a2_services.specs.Fits.{CursorFits}
use Rattle.a2_services.proofs.Fitting.{return_fits, line_feed_fits, backspace_fits, character_fits}
use Rattle.a2_services.proofs.put.put_unmasked.Goals as goal

pub returns-in-141-clause-fits : goal.returns-in-141-clause-fits
returns-in-141-clause-fits g c = subst CursorFits (sym c.return_line.ensures) (return_fits (memory_of c.args.space.now) c.requires.line)

pub returns-in-138-clause-fits : goal.returns-in-138-clause-fits
returns-in-138-clause-fits g c = subst CursorFits (sym c.feed.ensures) (line_feed_fits (memory_of c.args.space.now) c.requires)

pub returns-in-136-clause-fits : goal.returns-in-136-clause-fits
returns-in-136-clause-fits g c = subst CursorFits (sym c.back.ensures) (backspace_fits (memory_of c.args.space.now) c.requires)

pub returns-in_default-clause-fits : goal.returns-in_default-clause-fits
returns-in_default-clause-fits g c = subst CursorFits (sym c.show.ensures) (character_fits c.args.byte (memory_of c.args.space.now) c.requires)
