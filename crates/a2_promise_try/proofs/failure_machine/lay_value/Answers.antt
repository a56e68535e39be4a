use Rattle.std.proofs.Common.{ap, ◌∙◌}
use Rattle.a2_bus.specs.View.{memory_of}
use Rattle.a2_effect.specs.Registers.{Registers}
use Rattle.a2_effect.specs.View.{registers_of}
use Rattle.a2_promise_certify.specs.States.{with_value}
use Rattle.a2_promise_try.proofs.Laying.{fresh_kept, register_laid}
use Rattle.a2_promise_try.proofs.failure_machine.lay_value.Goals as goal

pub returns : goal.returns
returns c =
    let old = c.args.machine.now in
    let new = c.set_regs.new.self in record {
      world = λ _.
          register_laid c.args.input c.args.value old new c.in_default.not-Byte c.set_regs.ensures.left
          (c.set_regs.ensures.registers ∙ c.regs-2.ensures.registers ∙ c.put_register.ensures (memory_of old.state.bus)
          ∙ ap (λ (r : Registers). (with_value c.args.input c.args.value
          (record { registers = r; memory = memory_of old.state.bus; cycles = 0 })).registers)
          (c.of-live.ensures.registers ∙ ap registers_of c.regs.ensures.value));
      fresh = fresh_kept old new c.set_regs.ensures.left;
    }
