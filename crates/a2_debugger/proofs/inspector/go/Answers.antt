use Rattle.std.proofs.Common.{sym, subst}
use Rattle.a2_services.specs.World.{World}
use Rattle.a2_machine.specs.State.{world_of_state}
use Rattle.a2_history.specs.Going.{AlarmsAreComplete}
use Rattle.a2_debugger.specs.Stops.{is_stop}
use Rattle.a2_debugger.specs.Alerts.{Alerts, alarms}
use Rattle.a2_debugger.proofs.inspector.go.Goals as goal

pub go_on-requires : goal.go_on-requires
go_on-requires g c =
    let stops = c.args.stops in
    let track = c.args.history.now in
    let marks = c.args.marks.now in
    let warns : Alerts → World → Type 0 = λ alerts w.
    AlarmsAreComplete (is_stop stops.breaks.now stops.watches.now w) (alarms alerts stops.breaks.now stops.watches.now w) track.course track.position in
    subst (λ (alerts : Alerts). warns alerts (world_of_state stops.before.now.state)) (sym c.lent.ensures) (subst (λ (w : World). warns marks w) (sym c.requires.here) c.requires.warns)

pub returns : goal.returns
returns g c = rw (← c.requires.here) c.go_on.ensures
