use Rattle.std.proofs.Common.{◌∙◌, ap, subst}
use Rattle.a2_stream.specs.Stream.{Sends, Breaks}
use Rattle.a2_stream.proofs.Joined.{Sends-nil, broke, broke_within}
use Rattle.a2_bus.specs.View.{memory_of}
use Rattle.a2_services.specs.World.{World}
use Rattle.a2_monitor.specs.SessionStates.{SessionState}
use Rattle.a2_memory.specs.declared.part.Part.{Part}
use Rattle.a2_memory.specs.Parts.{shown_part}
use Rattle.a2_memory.proofs.ShownLaws.{sends-more, sends-moved, breaks-moved}
use Rattle.a2_memory.proofs.parts.write_parts.Goals as goal

pub loop-part-init : goal.loop-part-init
loop-part-init g c = record {
  memory = ap (λ (s : SessionState). s.world.memory) c.new-session.ensures.session_state;
  sent = Sends-nil (g.W.Output.taker c.args.writer.now);
}

pub loop-part-preserved : goal.loop-part-preserved
loop-part-preserved g c = record {
  memory = ap (λ (w : World). w.memory) c.in_ok-write_part.ensures.world ∙ c.loop-part.invariant.memory;
  sent = sends-more (shown_part (memory_of c.args.machine.state.bus)) c.args.parts.now c.loop-part.part-index c.part-item.result
      (g.W.Output.taker c.args.writer.now) (g.W.Output.taker c.loop-part.writer) (g.W.Output.taker c.write_part.new.writer)
      c.loop-part-test.true c.loop-part.invariant.sent
      (subst (λ (p : Part). Sends (g.W.Output.taker c.loop-part.writer) (g.W.Output.taker c.write_part.new.writer) (shown_part (memory_of c.args.machine.state.bus) p)) c.part-item.is
      (sends-moved _ _ _ _ _ c.loop-part.invariant.memory c.in_ok-write_part.ensures.shown));
}

pub returns-in_err-write_part : goal.returns-in_err-write_part
returns-in_err-write_part g c =
    broke _ _ _ _ c.from_residual.ensures.0
    (broke_within (shown_part (memory_of c.args.machine.state.bus)) c.args.parts.now c.loop-part.part-index c.part-item.result
    (g.W.Output.taker c.args.writer.now) (g.W.Output.taker c.loop-part.writer) (g.W.Output.taker c.write_part.new.writer)
    c.loop-part-test.true c.loop-part.invariant.sent
    (subst (λ (p : Part). Breaks (g.W.Output.taker c.loop-part.writer) (g.W.Output.taker c.write_part.new.writer) (shown_part (memory_of c.args.machine.state.bus) p)) c.part-item.is
    (breaks-moved _ _ _ _ _ c.loop-part.invariant.memory c.in_err-write_part.ensures.shown)))
