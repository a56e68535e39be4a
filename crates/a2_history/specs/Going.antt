-- Ways to move through a run.
use Rattle.std.specs.Prelude.{◌≡◌, ◌⊎◌, ℕ, ◌+◌, ◌<◌, ◌≤◌, ◌==◌, Bool, true, false, ◌&&◌, nat_le, nat_lt, List, [], ◌∷◌, ◌++◌, filter, All, Option, Some, None}
use Rattle.std.specs.List.{list_any}
use Rattle.a2_services.specs.World.{World}
use Rattle.a2_machine.specs.declared.causes.Cause.TheVariants.{Limit}
use Rattle.a2_burst.specs.Shown.{Shown}
use Rattle.a2_machine.specs.Meaning.{stuck}
use Rattle.a2_machine.specs.Looks.{shown_between}
use Rattle.a2_machine.specs.State.{MachineState, Device, world_of_state, code_of}
use Rattle.a2_history.specs.declared.Halt.{Halt}
use Rattle.a2_history.specs.declared.Halt.TheVariants.{Seen, Stopped}
use Rattle.a2_history.specs.declared.actions.Change.{Change}
use Rattle.a2_history.specs.declared.actions.Action.{Action}
use Rattle.a2_history.specs.declared.actions.Action.TheVariants.{Keys, Change as Changed}
use Rattle.a2_history.specs.declared.actions.Logged.{Logged}
use Rattle.a2_history.specs.Courses.{Course, with_logged, arrived, world_on, NoneStuck}

-- a run, and a position in it
pub record Track : Type 0 where
  pub course : Course
  pub position : ℕ

-- the world at the position
abbrev pub here : Track → World
here track = world_on track.course track.position

-- the latest position in a range at which something is seen, or none; the range includes its start but not its end
abbrev pub IsNewest : (World → Bool) → Course → ℕ → ℕ → Option ℕ → Type 0
IsNewest seen course from end None = (k : ℕ) → from ≤ k → k < end → seen (world_on course k) ≡ false
IsNewest seen course from end (Some p) =
    (from ≤ p) × (p < end) × (seen (world_on course p) ≡ true) × ((k : ℕ) → p < k → k < end → seen (world_on course k) ≡ false)

-- why moving forwards, to the end at most, stopped here
abbrev pub EndsBy : (World → Bool) → Course → ℕ → ℕ → ℕ → Halt → Type 0
EndsBy seen course from end to Seen = (from < to) × (seen (world_on course to) ≡ true)
EndsBy seen course from end to (Stopped cause) =
    (from < to → seen (world_on course to) ≡ false)
    × ((stuck (code_of course.origin) (world_on course to) ≡ Some cause)
    ⊎ ((stuck (code_of course.origin) (world_on course to) ≡ None) × (to ≡ end) × (cause ≡ Limit)))

-- steps were run to the first world that is seen, or to one that is stuck, or to an end
pub record Advances (seen : World → Bool) (course : Course) (from end to : ℕ) (halt : Halt) : Type 0 where
  pub ahead : from ≤ to
  pub within : to ≤ end
  pub passed : (k : ℕ) → from < k → k < to → seen (world_on course k) ≡ false
  pub went : NoneStuck course to
  pub ends : EndsBy seen course from end to halt

-- what an observer is shown of the step from a position, before anything is done by hand at the next one
abbrev pub shown_on : Course → ℕ → Shown
shown_on course n = shown_between (world_on course n) (arrived course (n + 1))

-- nothing is done by hand at a position
abbrev pub NothingDoneAt : Course → ℕ → Type 0
NothingDoneAt course n = (world : World) → with_logged course.log n world ≡ world

-- each step from a position on after which something is newly seen raises an alarm, unless something is done by hand after it
abbrev pub AlarmsAreComplete : (World → Bool) → (Shown → Bool) → Course → ℕ → Type 0
AlarmsAreComplete seen alarms course from =
    (k : ℕ) → from ≤ k → NoneStuck course (k + 1) → NothingDoneAt course (k + 1) → seen (world_on course (k + 1)) ≡ true
    → alarms (shown_on course k) ≡ false → (from < k) × (seen (world_on course k) ≡ true)

-- what was done by hand up to a position
abbrev pub up_to : ℕ → List Logged → List Logged
up_to position log = filter (λ l. nat_le l.position position) log

-- this was done by hand at a position; what was done later is forgotten
abbrev pub with_done : ℕ → Action → Course → Course
with_done position action course = record course { log = up_to position course.log ++ record { position = position; action = action } ∷ [] }

-- keys were typed at a position
abbrev pub with_typed : ℕ → List ℕ → Course → Course
with_typed position keys course = with_done position (Keys keys) course

-- a byte or registers were changed at a position
abbrev pub with_changed : ℕ → Change → Course → Course
with_changed position change course = with_done position (Changed change) course

abbrev pub is_change : Action → Bool
is_change (Keys keys) = false
is_change (Changed change) = true

-- whether a byte or registers were changed by hand after a position
abbrev pub is_changed_after : ℕ → List Logged → Bool
is_changed_after position log = list_any (λ l. nat_lt position l.position && is_change l.action) log

-- whether a byte or registers were changed by hand at a position
abbrev pub is_changed_at : ℕ → List Logged → Bool
is_changed_at position log = list_any (λ l. (position == l.position) && is_change l.action) log

-- a machine's state is the one at its position in the run
pub record IsOn (course : Course) (state : MachineState) : Type 0 where
  pub world : world_of_state state ≡ world_on course state.steps
  pub went : NoneStuck course state.steps

-- all machines are at positions of a run, except for their guards
abbrev pub AreOn : Course → List Device → Type 0
AreOn course devices = All (λ d. IsOn course d.state) devices
