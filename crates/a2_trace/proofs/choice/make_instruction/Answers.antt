use Rattle.std.proofs.Common.{◌∙◌, sym, ap, ap₂, ℕ, List, suc}
use Rattle.std.specs.List.{list_any}
use Rattle.a2_opcode.specs.Encoding.{fetched}
use Rattle.a2_bus.specs.BusState.{BusState, board_access}
use Rattle.a2_bus.specs.Memory.{peek, memory_access}
use Rattle.a2_cpu.specs.StepStores.{step_stores, stores_at}
use Rattle.a2_cpu.specs.View.{before_step}
use Rattle.a2_effect.specs.declared.Regs.{Regs}
use Rattle.a2_effect.specs.View.{registers_of}
use Rattle.a2_services.specs.World.{World}
use Rattle.a2_timed_keys.specs.Rerun.{worlds_of}
use Rattle.a2_trace.specs.Choices.{is_in}
use Rattle.a2_trace.proofs.Storing.{stores-by_instruction, stores-there}
use Rattle.a2_trace.proofs.choice.make_instruction.Goals as goal

pub returns-then-step : goal.returns-then-step
returns-then-step g c =
    let old = c.args.rerun.now in
    let state = c.machine-machine.result.now.state in
    let (more, next) = c.step.ensures.made c.if-step.true in (
      more,
      next,
      c.is_any_in.ensures
          ∙ ap (λ (l : List ℕ). list_any (is_in c.args.span) l)
          (c.as_slice.ensures.value ∙ c.writes-addresses.ensures
          ∙ ap₂ (λ (r : Regs) (b : BusState). step_stores board_access (before_step r b)) c.regs.ensures.value c.space.ensures
          ∙ stores-there (registers_of state.regs) state.bus state.cycles c.peek.ensures.size)
          ∙ ap (λ (w : World). list_any (is_in c.args.span) (stores_at memory_access (fetched (peek w.memory) w.registers.pc) w)) c.machine-machine.ensures.world
          ∙ sym (stores-by_instruction c.args.span (worlds_of old.run old.steps) (worlds_of old.run (suc old.steps)) c.requires),
    )
