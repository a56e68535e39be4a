use Rattle.std.proofs.Common.{◌∙◌, sym, ap, subst, Bool, List, ℕ}
use Rattle.a2_stream.specs.Stream.{SendsOrBreaks}
use Rattle.a2_bus.proofs.Showing.{picture_seen}
use Rattle.a2_machine.specs.State.{world_of_state}
use Rattle.a2_monitor_session.specs.Screens.{screen_where}
use Rattle.a2_monitor_session.proofs.screen_copy.put_screen.Goals as goal

pub returns-then-is_asked : goal.returns-then-is_asked
returns-then-is_asked g c =
    let world = world_of_state c.args.machine.now.state in
    subst (λ (text : List ℕ). SendsOrBreaks (g.W.Output.taker c.args.writer.now) (g.W.Output.taker c.print.new.writer) c.print.result text)
    (picture_seen c.view.result c.args.machine.now.state.bus
    (record { page1 = c.view.ensures.page1; page2 = c.view.ensures.page2; switches = c.view.ensures.switches })
    ∙ ap (λ (b : Bool). screen_where b world) (sym c.if-is_asked.true))
    c.print.ensures
