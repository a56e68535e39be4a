-- A state in which a routine is tried, as a machine that enters the routine. This project's own.
use Rattle.std.specs.Prelude.{◌≡◌, ℕ, Bool, true, nat_lt, List, Option, Some, None, IfSome}
use Rattle.a2_bus.specs.Memory.{ram_end}
use Rattle.a2_services.specs.World.{World}
use Rattle.a2_machine.specs.Start.{called_at, start_world}
use Rattle.a2_machine.specs.State.{Device}
use Rattle.a2_promise_certify.specs.declared.input.Input.{Input}
use Rattle.a2_promise_certify.specs.declared.input.Input.TheVariants.{Byte}
use Rattle.a2_promise_certify.specs.States.{with_values}

-- what is laid over RAM: each byte of the program, and other, arbitrary bytes
abbrev pub IsFilled : (ℕ → Option ℕ) → (ℕ → Option ℕ) → Type 0
IsFilled program filled = (a : ℕ) → IfSome (program a) (λ byte. filled a ≡ Some byte)

-- an input is a register, a flag or a byte of RAM
abbrev pub is_input_in_ram : Input → Bool
is_input_in_ram (Byte a) = nat_lt a ram_end
is_input_in_ram _ = true

-- The machine at its start: the program and arbitrary bytes are laid over its RAM, these keys are typed, and the
-- routine at an address is entered as by a JSR. These inputs have these values.
pub record IsEntry (program : ℕ → Option ℕ) (address : ℕ) (keys : List ℕ) (inputs : List Input) (values : List ℕ) (world : World) : Type 0 where
  pub filled : ℕ → Option ℕ
  pub is_filled : IsFilled program filled
  pub world_is : world ≡ with_values inputs values (called_at address (start_world filled address keys))

-- the machine has not executed a step since its start, and has no guard
pub record IsFresh (machine : Device) : Type 0 where
  pub steps : machine.state.steps ≡ 0
  pub guard : machine.state.guard ≡ None
