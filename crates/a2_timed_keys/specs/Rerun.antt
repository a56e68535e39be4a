-- A finished run that is executed again. This project's profile.
use Rattle.std.specs.Prelude.{◌≡◌, ℕ, suc, ◌+◌, ◌<◌, ◌≤◌, []}
use Rattle.a2_burst.specs.Shown.{Shown}
use Rattle.a2_services.specs.World.{World}
use Rattle.a2_machine.specs.ByteRun.{bytes}
use Rattle.a2_machine.specs.Looks.{shown_between}
use Rattle.a2_machine.specs.Meaning.{End}
use Rattle.a2_machine.specs.State.{Device, world_of_state}
use Rattle.a2_run.specs.Meaning.{code_of_run, start_of_run}
use Rattle.a2_run.specs.Started.{guard_of_run}
use Rattle.a2_timed_keys.specs.Finished.{Finished}
use Rattle.a2_timed_keys.specs.Typed.{keys_at, world_with_keys, IsRunning}

-- the worlds that a finished run passes through, each with the keys that are typed there, by the number of steps before it
unfoldable pub worlds_of : Finished → ℕ → World
worlds_of f n = world_with_keys (code_of_run f.free f.program) (start_of_run f.program f.keys) f.log n

-- where it ended
abbrev pub end_of : Finished → End
end_of f = record { world = world_of_state f.machine.state; steps = f.machine.state.steps; cause = f.cause }

-- what an observer is shown of a step of a run with these worlds, counted from 0
abbrev pub shown_in : (ℕ → World) → ℕ → Shown
shown_in worlds n = shown_between (worlds n) (worlds (suc n))

-- the same if its first steps, as many as `first`, were not shown
abbrev pub shown_from : (ℕ → World) → ℕ → ℕ → Shown
shown_from worlds first n = shown_in worlds (first + n)

-- a finished run, and how many of its steps were executed again
pub record Rerunning : Type 0 where
  pub run : Finished
  pub steps : ℕ

-- a machine has executed the first steps of a run again; no key is typed between them and the steps `due`
pub record IsRerunning (f : Finished) (machine : Device) (due : ℕ) : Type 0 where
  pub at : IsRunning (bytes (guard_of_run f.free f.program)) (start_of_run f.program f.keys) f.log f.machine.state.steps machine.state.steps machine
  pub within : due ≤ f.machine.state.steps
  pub next : machine.state.steps < f.machine.state.steps → machine.state.steps < due
  pub none : (k : ℕ) → machine.state.steps < k → k < due → keys_at f.log k ≡ []
