-- Steps that are run in one call. No public clause cites this file.
use Rattle.std.specs.Prelude.{◌≡◌, ℕ, ◌+◌, ◌-◌, ◌<◌, ◌≤◌, List, None}
use Rattle.a2_services.specs.World.{World}
use Rattle.a2_machine.specs.Meaning.{stuck, world_at}
use Rattle.a2_machine.specs.State.{Device, world_of_state, code_of}
use Rattle.a2_history.specs.declared.actions.Logged.{Logged}
use Rattle.a2_history.specs.Courses.{with_logged}

-- some steps were run, at most this many
pub record IsBurst (most : ℕ) (old new : Device) : Type 0 where
  pub some : old.state.steps < new.state.steps
  pub most_made : new.state.steps ≤ old.state.steps + most
  pub reached : world_of_state new.state ≡ world_at (code_of old.state) (world_of_state old.state) (new.state.steps - old.state.steps)
  pub going : (k : ℕ) → k < new.state.steps - old.state.steps
      → stuck (code_of old.state) (world_at (code_of old.state) (world_of_state old.state) k) ≡ None
  pub guard : new.state.guard ≡ old.state.guard

-- nothing of a log was done between two positions
abbrev pub IsQuiet : List Logged → ℕ → ℕ → Type 0
IsQuiet log from to = (k : ℕ) → from < k → k < to → (world : World) → with_logged log k world ≡ world
