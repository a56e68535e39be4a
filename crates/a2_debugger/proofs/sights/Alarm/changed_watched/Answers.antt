use Rattle.std.specs.Prelude.{◌&&◌, slice_get}
use Rattle.std.specs.List.{list_any}
use Rattle.std.proofs.Common.{◌≡◌, Bool, true, sym, ap, ap₂, ◌∙◌}
use Rattle.a2_machine.specs.State.{world_of_state}
use Rattle.a2_debugger.specs.Alerts.{is_marked, moment_after}
use Rattle.a2_debugger.specs.Stops.{Moment, moment_of, is_watch_changed}
use Rattle.a2_debugger.proofs.sights.Alarm.changed_watched.Goals as goal

pub returns-then-may_change : goal.returns-then-may_change
returns-then-may_change g c =
    let watches = c.args.self.now.stops.watches.now in
    let before = moment_of (world_of_state c.args.self.now.stops.before.now.state) in
    let after = moment_after (record { look = c.args.look; ram = slice_get c.args.ram.now }) in
    let marked : is_marked c.args.self.now.alerts.stores c.args.look.pc ≡ true = sym c.may_change.ensures ∙ c.if-may_change.true in
    c.are_changed.ensures
    ∙ ap₂ (λ (b a : Moment). list_any (is_watch_changed b a) watches) c.of.ensures c.following.ensures
    ∙ sym (ap (λ (b : Bool). b && list_any (is_watch_changed before after) watches) marked)
