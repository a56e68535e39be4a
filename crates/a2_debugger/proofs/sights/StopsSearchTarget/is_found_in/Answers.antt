use Rattle.std.specs.Prelude.{◌||◌}
use Rattle.std.specs.List.{list_any}
use Rattle.std.proofs.Common.{◌≡◌, Bool, false, sym, ap, ap₂, ◌∙◌}
use Rattle.a2_machine.specs.State.{world_of_state}
use Rattle.a2_debugger.specs.Stops.{Moment, moment_of, is_hit, is_watch_changed, is_changed_in}
use Rattle.a2_debugger.proofs.sights.StopsSearchTarget.is_found_in.Goals as goal

pub returns-else-is_at_break : goal.returns-else-is_at_break
returns-else-is_at_break g c =
    let breaks = c.args.self.now.breaks.now in
    let watches = c.args.self.now.watches.now in
    let now = world_of_state c.args.self.now.before.now.state in
    let world = world_of_state c.args.machine.now.state in
    let missed : list_any (is_hit (moment_of world)) breaks ≡ false =
    sym (c.is_at_break.ensures ∙ ap (λ (m : Moment). list_any (is_hit m) breaks) c.of-moment.ensures) ∙ c.if-is_at_break.false in
    c.are_changed.ensures
    ∙ ap₂ (λ (before after : Moment). list_any (is_watch_changed before after) watches) c.of.ensures c.of-moment.ensures
    ∙ sym (ap (λ (b : Bool). b || list_any (is_changed_in now world) watches) missed)
