use Rattle.std.proofs.Common.{sym, subst}
use Rattle.a2_history.specs.Going.{Track}
use Rattle.a2_debugger.specs.Alerts.{WarnsOfStops}
use Rattle.a2_debugger.proofs.inspector.out.Goals as goal

pub leave-requires-clause-warns : goal.leave-requires-clause-warns
leave-requires-clause-warns g c =
    let stops = c.args.stops in
    subst (λ (t : Track). WarnsOfStops c.args.marks.now stops.breaks.now stops.watches.now t) (sym c.entered.ensures.kept) c.requires.warns
