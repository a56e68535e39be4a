use Rattle.std.proofs.Common.{ap}
use Rattle.a2_page.specs.Kept.{KeptPicture}
use Rattle.a2_monitor_session.proofs.Looks.{look_is}
use Rattle.a2_monitor_session.proofs.screen_copy.ScreenCopy.at.Goals as goal

pub returns : goal.returns
returns g c =
    look_is c.view-view.result c.args.machine.now.state c.refresh.new.self.rows
    (record { page1 = c.view-view.ensures.page1; page2 = c.view-view.ensures.page2; switches = c.view-view.ensures.switches })
    (ap (λ (kept : KeptPicture). kept.rows) c.refresh.ensures.taken)
