-- The registers and flags that a machine gets for the inputs of a state.
use Rattle.std.specs.Prelude.{◌≡◌, ℕ, refl}
use Rattle.std.proofs.Common.{sym, ap, ◌∙◌}
use Rattle.a2_bus.specs.View.{memory_of}
use Rattle.a2_effect.specs.Registers.{Registers}
use Rattle.a2_effect.specs.View.{registers_of}
use Rattle.a2_services.specs.World.{World}
use Rattle.a2_machine.specs.State.{Device, world_of_state}
use Rattle.a2_promise_try.specs.Failing.{IsFresh}
use Rattle.a2_promise_certify.specs.States.{with_value}
use Rattle.a2_promise_certify.specs.declared.input.Input.{Input}
use Rattle.a2_promise_certify.specs.declared.input.Input.TheVariants.{A, X, Y, Carry, Zero, Negative, Overflow, Interrupt, Byte}

-- an input that is not a byte is one of the registers, whatever memory and cycles are
only_registers : (input : Input) (value : ℕ) (world : World) → ((a : ℕ) → input ≡ Byte a → ⊥)
    → with_value input value world ≡ record world {
      registers = (with_value input value
          (record { registers = world.registers; memory = world.memory; cycles = 0 })).registers;
    }
only_registers A value world other = refl
only_registers X value world other = refl
only_registers Y value world other = refl
only_registers Carry value world other = refl
only_registers Zero value world other = refl
only_registers Negative value world other = refl
only_registers Overflow value world other = refl
only_registers Interrupt value world other = refl
only_registers (Byte a) value world other = absurd (other a refl)

-- only the registers differ
abbrev HasRegisters : Device → Device → Type 0
HasRegisters old new = new ≡ record old { state = record old.state { regs = new.state.regs } }

pub register_laid : (input : Input) (value : ℕ) (old new : Device) → ((a : ℕ) → input ≡ Byte a → ⊥) → HasRegisters old new
    → registers_of new.state.regs ≡ (with_value input value (record {
      registers = registers_of old.state.regs;
      memory = memory_of old.state.bus;
      cycles = 0;
    })).registers
    → world_of_state new.state ≡ with_value input value (world_of_state old.state)
register_laid input value old new other left put =
    ap (λ (d : Device). world_of_state d.state) left
    ∙ ap (λ (r : Registers). record (world_of_state old.state) { registers = r }) put
    ∙ sym (only_registers input value (world_of_state old.state) other)

pub fresh_kept : (old new : Device) → HasRegisters old new → IsFresh old → IsFresh new
fresh_kept old new left fresh = record {
  steps = ap (λ (d : Device). d.state.steps) left ∙ fresh.steps;
  guard = ap (λ (d : Device). d.state.guard) left ∙ fresh.guard;
}
