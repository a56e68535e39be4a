use Rattle.std.specs.Prelude.{ℕ, Option}
use Rattle.std.proofs.Common.{ap, ap₂, ◌∙◌}
use Rattle.a2_bus.specs.Memory.{peek}
use Rattle.a2_effect.specs.declared.Regs.{Regs}
use Rattle.a2_effect.specs.Registers.{byte_of_flags}
use Rattle.a2_effect.specs.View.{flags_of}
use Rattle.a2_machine.specs.State.{world_of_state}
use Rattle.a2_debugger.specs.Stops.{Moment}
use Rattle.a2_debugger.proofs.stops.Moment.of.Goals as goal

pub returns : goal.returns
returns g c =
    let by : Regs → ℕ → (ℕ → Option ℕ) → Moment =
    λ regs p ram. record { pc = regs.pc; a = regs.a; x = regs.x; y = regs.y; s = regs.s; p = p; ram = ram } in
    ap₂ (λ (p : ℕ) (ram : ℕ → Option ℕ). by c.regs-regs.result p ram) c.pushed.ensures c.ram_of.ensures
    ∙ ap (λ (regs : Regs). by regs (byte_of_flags (flags_of regs.p)) (peek (world_of_state c.args.machine.now.state).memory)) c.regs-regs.ensures.value
