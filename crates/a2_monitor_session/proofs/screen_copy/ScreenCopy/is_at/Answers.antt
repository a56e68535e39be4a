use Rattle.std.proofs.Common.{◌∙◌, sym, ap}
use Rattle.std.proofs.lemmas.Bool.{false≢true}
use Rattle.a2_page.specs.Kept.{after_refresh}
use Rattle.a2_bus.proofs.Showing.{IsView}
use Rattle.a2_monitor_session.specs.Screens.{Screen}
use Rattle.a2_monitor_session.proofs.Looks.{same_is, same_switches, switches_are, switches_same}
use Rattle.a2_monitor_session.proofs.screen_copy.ScreenCopy.is_at.Goals as goal

pub returns-then-eq : goal.returns-then-eq
returns-then-eq g c =
    same_is c.args.self.now c.self.inside.picture c.view-view.result c.args.machine.now.state c.fits.result
    (record { page1 = c.view-view.ensures.page1; page2 = c.view-view.ensures.page2; switches = c.view-view.ensures.switches })
    (c.self.invariant ∙ ap (λ (s : Screen). after_refresh s.rows) c.self.view_is)
    (sym (ap (λ (s : Screen). s.switches) c.self.view_is) ∙ switches_are c.self.inside.switches c.view-view.result.switches (sym c.eq.ensures ∙ c.if-eq.true))
    c.fits.ensures

pub returns-else-eq : goal.returns-else-eq
returns-else-eq g c =
    let view : IsView c.view-view.result c.args.machine.now.state.bus
    = record { page1 = c.view-view.ensures.page1; page2 = c.view-view.ensures.page2; switches = c.view-view.ensures.switches } in (
      λ h. absurd (false≢true (sym c.if-eq.false ∙ h)),
      λ same. c.eq.ensures ∙ switches_same c.self.inside.switches c.view-view.result.switches
          (ap (λ (s : Screen). s.switches) c.self.view_is
          ∙ same_switches c.args.self.now c.view-view.result c.args.machine.now.state view same),
    )
