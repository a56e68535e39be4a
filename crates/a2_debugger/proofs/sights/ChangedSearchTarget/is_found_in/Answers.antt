use Rattle.std.proofs.Common.{ap₂, ◌∙◌}
use Rattle.a2_debugger.specs.Stops.{Moment, is_watch_changed}
use Rattle.a2_debugger.proofs.sights.ChangedSearchTarget.is_found_in.Goals as goal

pub returns : goal.returns
returns g c =
    c.is_watch_changed.ensures
    ∙ ap₂ (λ (before now : Moment). is_watch_changed before now c.args.self.now.watch) c.of.ensures c.of-2.ensures
