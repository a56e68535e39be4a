use Rattle.std.proofs.Common.{sym, refl, ◌∙◌}
use Rattle.std.proofs.lemmas.Bool.{false≢true}
use Rattle.a2_monitor_session.proofs.Tells.{replied}
use Rattle.a2_monitor_session.proofs.monitor.MonitorPartner.answer.Goals as goal

pub returns-in-None : goal.returns-in-None
returns-in-None g c =
    let (text, reply, sends) = c.reply.ensures in (
      text,
      replied c.args.line.now _ c.args.self.now _ text c.self.view_is c.in_default.is
          (λ h. false≢true (sym c.if-is_help.false ∙ c.is_help.ensures.1 h)) (sym c.called_in.ensures ∙ c.in-None.is) reply refl refl,
      sends,
    )
