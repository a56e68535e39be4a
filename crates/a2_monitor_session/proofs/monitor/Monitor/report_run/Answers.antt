use Rattle.std.specs.Prelude.{◌↔◌}
use Rattle.std.proofs.Common.{◌≡◌, ◌-◌, ◌∙◌, Bool, true, ap, ap₂, subst}
use Rattle.a2_stream.specs.Stream.{SendsOrBreaks}
use Rattle.a2_machine.specs.State.{Device, world_of_state}
use Rattle.a2_monitor_session.specs.Calls.{Attended, waits_by}
use Rattle.a2_monitor_session.specs.Screens.{Screen, IsSameScreen, screen_of}
use Rattle.a2_monitor_session.proofs.Tells.{told, reported_lines}
use Rattle.a2_monitor_session.proofs.monitor.Monitor.report_run.Goals as goal

pub returns : goal.returns
returns g c begin looks steps run =
    let is_same = c.is_at-is_same.result in
    let waits = c.waits_by-waits.result in
    let there : c.machine-machine.result.now ≡ c.args.self.now.session.machine
    = c.machine-machine.ensures ∙ ap (λ (a : Attended). a.session.machine) c.self.view_is in
    let same : (is_same ≡ true) ↔ IsSameScreen (screen_of begin.session_state.world) (screen_of (world_of_state c.args.self.now.session.machine.state))
    = subst (λ (m : Device). (is_same ≡ true) ↔ IsSameScreen (screen_of begin.session_state.world) (screen_of (world_of_state m.state))) there
    (subst (λ (s : Screen). (is_same ≡ true) ↔ IsSameScreen s (screen_of (world_of_state c.machine-machine.result.now.state))) looks
    c.is_at-is_same.ensures) in (
      reported_lines is_same waits c.args.notice.now c.args.cause c.note.new.self,
      told begin c.args.limit c.args.notice.now c.args.self.now c.note.new.self c.args.cause is_same waits
          (c.steps.result - c.args.before.now.steps) c.steps_left_if_waiting.result run same
          (c.waits_by-waits.ensures ∙ ap (λ (b : Bool). waits_by b c.args.cause) (c.is_some.ensures ∙ ap (λ (a : Attended). a.is_live) c.self.view_is))
          (ap₂ (λ a b. a - b) (c.steps.ensures ∙ ap (λ (m : Device). m.state.steps) there) steps)
          c.steps_left_if_waiting.ensures
          c.note.ensures,
      subst (λ (a : Attended). SendsOrBreaks (g.W.Output.taker c.args.writer.now) (g.W.Output.taker c.put_run.new.writer) c.put_run.result
          (reported_lines is_same waits c.args.notice.now c.args.cause a)) c.self-2.view_is c.put_run.ensures,
    )
