use Rattle.std.specs.Prelude.{◌&&◌, slice_get}
use Rattle.std.specs.List.{list_any}
use Rattle.std.proofs.Common.{◌≡◌, Bool, true, sym, ap, ◌∙◌}
use Rattle.a2_debugger.specs.Alerts.{is_marked, moment_after}
use Rattle.a2_debugger.specs.Stops.{Moment, is_hit}
use Rattle.a2_debugger.proofs.sights.Alarm.reaches_break.Goals as goal

pub returns-then-has_stop : goal.returns-then-has_stop
returns-then-has_stop g c =
    let breaks = c.args.self.now.stops.breaks.now in
    let marked : is_marked c.args.self.now.alerts.stops c.args.look.next_pc ≡ true = sym c.has_stop.ensures ∙ c.if-has_stop.true in
    c.is_at_break.ensures ∙ ap (λ (m : Moment). list_any (is_hit m) breaks) c.following.ensures
    ∙ sym (ap (λ (b : Bool). b && list_any (is_hit (moment_after (record { look = c.args.look; ram = slice_get c.args.ram.now }))) breaks) marked)
