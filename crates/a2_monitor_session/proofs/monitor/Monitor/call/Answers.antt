use Rattle.std.proofs.Common.{ℕ, List, subst}
use Rattle.a2_stream.specs.Stream.{SendsOrBreaks}
use Rattle.a2_machine.specs.Start.{called_at}
use Rattle.a2_monitor.specs.SessionStates.{SessionState, state_of_session}
use Rattle.a2_monitor_session.specs.Calls.{Attended, Begin, IsCallReported}
use Rattle.a2_monitor_session.proofs.monitor.Monitor.call.Goals as goal

pub returns : goal.returns
returns g c =
    let session_state : SessionState = state_of_session c.self.inside.session in
    let begin : Begin = record { world = called_at c.args.at session_state.world; session_state = session_state } in
    subst (λ (old : Attended). (text : List ℕ) × IsCallReported c.args.at old text c.report_run.new.self
    × SendsOrBreaks (g.W.Output.taker c.args.writer.now) (g.W.Output.taker c.report_run.new.writer) c.report_run.result text) c.self.view_is
    (c.report_run.ensures begin c.state_before-before.ensures.look c.state_before-before.ensures.steps c.call-cause.ensures)
