-- The steps of a run, one after another.
use Rattle.std.specs.Prelude.{◌≡◌, ℕ, suc, ◌≤◌, refl, Option, Some, None, Result, Ok, Err}
use Rattle.std.proofs.Common.{arith}
use Rattle.a2_bus.specs.Memory.{memory_access}
use Rattle.a2_effect.specs.Instruction.{performed}
use Rattle.a2_services.specs.declared.rows.Service.{Service}
use Rattle.a2_services.specs.Services.{service_at, served}
use Rattle.a2_services.specs.World.{World}
use Rattle.a2_machine.specs.declared.causes.Cause.{Cause}
use Rattle.a2_machine.specs.Meaning.{Code, Decoded, next, next_at, found_at_pc}
use Rattle.a2_run.specs.Meaning.{code_of_run}
use Rattle.a2_timed_keys.specs.Typed.{typed, world_before_keys, world_with_keys}
use Rattle.a2_timed_keys.specs.Finished.{Finished}
use Rattle.a2_timed_keys.specs.Rerun.{worlds_of}

-- No step reduces the cycles

found-later : (w : World) (found : Result Decoded Cause)
    → w.cycles ≤ (elim found as (λ _. World) [ Err cause ↦ w | Ok decoded ↦ performed memory_access decoded.row decoded.value w ]).cycles
unfolding performed
found-later w (Err cause) = omega arith
found-later w (Ok decoded) = omega arith

service-later : (w : World) (found : Result Decoded Cause) (service : Option Service)
    → w.cycles ≤ (elim service as (λ _. World) [
      | Some s ↦ served s w
      | None ↦ elim found as (λ _. World) [ Err cause ↦ w | Ok decoded ↦ performed memory_access decoded.row decoded.value w ]
    ]).cycles
unfolding served
service-later w found (Some s) = omega arith
service-later w found None = found-later w found

pub next-later : (code : Code) (w : World) → w.cycles ≤ (next code w).cycles
unfolding next next_at
next-later code w = service-later w (found_at_pc code w) (service_at w.registers.pc)

abbrev pub GoesLater : (ℕ → World) → Type 0
GoesLater worlds = (n : ℕ) → (worlds n).cycles ≤ (worlds (suc n)).cycles

pub goes-later : (f : Finished) → GoesLater (worlds_of f)
unfolding worlds_of world_with_keys world_before_keys typed
goes-later f n = next-later (code_of_run f.free f.program) (worlds_of f n)

pub no-cycles : (f : Finished) → (worlds_of f 0).cycles ≡ 0
unfolding worlds_of world_with_keys world_before_keys typed
no-cycles f = refl
