-- The states in which a routine of a program is entered, and a promise that is kept in every one. This project's own.
use Rattle.std.specs.Prelude.{ℕ, ◌<◌, ◌&&◌, not, List, [], Option, is_some}
use Rattle.a2_bus.specs.PowerOn.{start_memory}
use Rattle.a2_effect.specs.Registers.{registers_at}
use Rattle.a2_services.specs.World.{World}
use Rattle.a2_promise.specs.declared.promises.Promise.{Promise}
use Rattle.a2_promise_certify.specs.declared.input.Input.{Input}
use Rattle.a2_promise_certify.specs.Kept.{IsRequired, Keeps}
use Rattle.a2_promise_certify.specs.States.{Trial, Enters, has_byte, with_s}

-- The machine at its start, with the program loaded into RAM, and the routine at an address entered with S = $FD and
-- D clear. Every world has the bytes of the program as loaded, except for those that are inputs, and cycles are
-- counted from there.
abbrev pub laid : (ℕ → Option ℕ) → ℕ → List Input → Trial
laid program address inputs = record {
  base = record { registers = registers_at address; memory = start_memory program []; cycles = 0 };
  inputs = inputs;
  fixed = λ a. is_some (program a) && not (has_byte inputs a);
}

-- The promise is kept in every world in which its routine is entered and its requirements are met. This holds
-- whatever the inputs are, wherever S points, and whatever everything else is, except the program's bytes, D and the
-- devices.
unfoldable pub IsKeptEverywhere : (ℕ → Option ℕ) → Promise → List Input → ℕ → Type 0
IsKeptEverywhere program promise inputs limit =
    (s : ℕ) (world : World) → s < 256 → Enters (with_s s (laid program promise.address inputs)) world → IsRequired promise world
    → Keeps promise limit world
