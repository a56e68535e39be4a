-- How moving forwards ended, before that is reported. No public clause cites this file.
use Rattle.std.specs.Prelude.{◌≡◌, ◌⊎◌, ℕ, ◌<◌, ◌≤◌, Bool, true, false, Option, Some, None}
use Rattle.a2_services.specs.World.{World}
use Rattle.a2_machine.specs.declared.causes.Cause.{Cause}
use Rattle.a2_machine.specs.declared.causes.Cause.TheVariants.{Limit}
use Rattle.a2_machine.specs.Meaning.{stuck}
use Rattle.a2_machine.specs.State.{MachineState, world_of_state, code_of}
use Rattle.a2_history.specs.declared.Halt.{Halt}
use Rattle.a2_history.specs.declared.Halt.TheVariants.{Seen, Stopped}
use Rattle.a2_history.specs.Courses.{Course, world_on}

-- a machine is stuck for this cause, or it is not stuck and the cause is Limit
abbrev pub IsCauseAt : MachineState → Cause → Type 0
IsCauseAt state cause =
    (stuck (code_of state) (world_of_state state) ≡ Some cause)
    ⊎ ((stuck (code_of state) (world_of_state state) ≡ None) × (cause ≡ Limit))

-- why the run stopped at a position, if it is not the end
abbrev pub WhyStopped : (World → Bool) → Course → ℕ → ℕ → ℕ → Option Halt → Type 0
WhyStopped seen course from end to None = (to ≡ end) × (from < to → seen (world_on course to) ≡ false)
WhyStopped seen course from end to (Some Seen) = (from < to) × (seen (world_on course to) ≡ true)
WhyStopped seen course from end to (Some (Stopped cause)) =
    (from < to → seen (world_on course to) ≡ false) × (stuck (code_of course.origin) (world_on course to) ≡ Some cause)

-- steps were run to a position
pub record HasRunTo (seen : World → Bool) (course : Course) (from end to : ℕ) (why : Option Halt) : Type 0 where
  pub ahead : from ≤ to
  pub within : to ≤ end
  pub passed : (k : ℕ) → from < k → k < to → seen (world_on course k) ≡ false
  pub why_is : WhyStopped seen course from end to why
