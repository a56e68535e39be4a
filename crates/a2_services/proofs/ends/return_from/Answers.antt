use Rattle.std.specs.Prelude.{length, refl}
use Rattle.std.proofs.Common.{sym, ◌∙◌, ap}
use Rattle.a2_bus.specs.BusState.{BusState, board_access}
use Rattle.a2_bus.specs.Memory.{memory_access}
use Rattle.a2_bus.specs.View.{memory_of}
use Rattle.a2_bus.proofs.Holding.{Holds, holding}
use Rattle.a2_effect.specs.Instruction.{returned}
use Rattle.a2_effect.specs.Live.{before_live_step}
use Rattle.a2_cpu.proofs.Simulation.{returned-alike}
use Rattle.a2_services.proofs.ends.return_from.Goals as goal

pub returns : goal.returns
unfolding returned
returns g c =
    let live = c.args.live.now in
    let bus = c.args.space.now in
    let alike =
    returned-alike Holds board_access memory_access holding (before_live_step live bus) (before_live_step live (memory_of bus))
    (record { registers = refl; cycles = refl; memory = record { size = c.ram.ensures.size; same = refl } }) in
    record {
      returned = λ cycles i. record {
        registers = (c.return_from_call.ensures.registers ∙ alike.registers) i;
        memory = (ap memory_of c.return_from_call.ensures.memory ∙ sym alike.memory.same) i;
        cycles = cycles;
      };
      cycles = c.return_from_call.ensures.cycles;
      size = ap (λ (bus : BusState). length bus.bytes) c.return_from_call.ensures.memory ∙ alike.memory.size;
    }
