use Rattle.std.proofs.Common.{◌≡◌, inl, ℕ, ◌+◌, ◌≤◌, List, [], ◌∷◌, length, ap, ◌∙◌, subst, arith}
use Rattle.a2_stream.specs.Stream.{SendsOrBreaks}
use Rattle.a2_monitor.specs.SessionStates.{SessionState, IsFreeRun, state_of_session, with_keys}
use Rattle.a2_monitor_session.specs.Calls.{Attended, Begin, IsPressReported}
use Rattle.a2_monitor_session.specs.declared.press.Press.TheVariants.{Key}
use Rattle.a2_monitor_session.specs.Screens.{screen_of}
use Rattle.a2_monitor_session.proofs.Tells.{on_ok}
use Rattle.a2_monitor_session.proofs.monitor.Monitor.type_key.Goals as goal

pub returns : goal.returns
returns g c =
    let old : SessionState = state_of_session c.self.inside.session in
    let keyed : SessionState = with_keys (c.args.key ∷ []) old in
    let begin : Begin = record { world = keyed.world; session_state = keyed } in
    let typed : c.one.result ≡ c.args.key ∷ [] = c.one.ensures ∙ ap (λ (key : ℕ). key ∷ []) (omega (arith, c.requires)) in
    let at : state_of_session c.type_keys.new.self ≡ keyed
    = on_ok c.type_keys.result (state_of_session c.type_keys.new.self ≡ with_keys c.one.result old) c.if-is_err.ensures.negation c.type_keys.ensures.typed
    ∙ ap (λ (keys : List ℕ). with_keys keys old) typed in
    let room : length old.world.memory.devices.keys + 1 ≤ 4096
    = subst (λ (keys : List ℕ). length old.world.memory.devices.keys + length keys ≤ 4096) typed
    (c.type_keys.ensures.room.0 c.if-is_err.ensures.negation) in
    let (text, told, sends) = c.report_run.ensures begin
    (c.state_before-before.ensures.look ∙ ap (λ (s : SessionState). screen_of s.world) at)
    (c.state_before-before.ensures.steps ∙ ap (λ (s : SessionState). s.steps) at)
    (subst (λ (s : SessionState). IsFreeRun s.world c.args.limit s (state_of_session c.go_on-cause.new.self) c.go_on-cause.result) at c.go_on-cause.ensures) in
    subst (λ (a : Attended). (said : List ℕ) × IsPressReported c.args.limit (Key c.args.key) a said c.report_run.new.self
    × SendsOrBreaks (g.W.Output.taker c.args.writer.now) (g.W.Output.taker c.report_run.new.writer) c.report_run.result said) c.self.view_is
    (text, inl (room, told), sends)
