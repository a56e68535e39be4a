-- The film of a failing promise, in a file. This project's profile.
use Rattle.std.specs.Prelude.{◌≡◌, ℕ, false, IsTrue, List, IfSome, Result, Ok, Err}
use Rattle.std.specs.List.{list_all}
use Rattle.a2_hex.specs.Images.{held}
use Rattle.a2_asm.specs.Assembled.{Assembled}
use Rattle.a2_host.specs.Desks.{Files, Saves}
use Rattle.a2_machine.specs.ByteRun.{bytes}
use Rattle.a2_machine.specs.declared.causes.Cause.{Cause}
use Rattle.a2_machine.specs.State.{Device, world_of_state}
use Rattle.a2_run.specs.declared.fault.RunFault.{RunFault}
use Rattle.a2_run.specs.Started.{guard_of_run}
use Rattle.a2_film.specs.declared.chapters.Chapter.{Chapter}
use Rattle.a2_film.specs.Film.{IsFilmFrom}
use Rattle.a2_promise_try.specs.declared.verdict.Failure.{Failure}
use Rattle.a2_promise_try.specs.Failing.{IsEntry, IsFresh, is_input_in_ram}

-- a machine at the entry of a routine, in the state in which a promise failed
pub record EntersFailing (program : Assembled) (address : ℕ) (failure : Failure) (machine : Device) : Type 0 where
  pub fresh : IsFresh machine
  pub world : IsTrue (list_all is_input_in_ram failure.inputs.items)
      → IsEntry (held program.image) address failure.keys failure.inputs.items failure.values.items (world_of_state machine.state)

-- If the contents of the files are known: the file of this name is the film of such a machine's guarded run, with the failure's steps,
-- and no other file changed. If the call failed no file changed.
abbrev pub FilmsFailureInto : List ℕ → List ℕ → List Chapter → Assembled → ℕ → Failure → List ℕ → Files → Files
    → Result Cause RunFault → Type 0
FilmsFailureInto source title chapters program address failure page old new (Ok cause) =
    IfSome old (λ _. (machine : Device) × EntersFailing program address failure machine × (output : List ℕ)
    × IsFilmFrom source title chapters false program (bytes (guard_of_run false program)) machine.state.steps
    (world_of_state machine.state) failure.steps cause output × Saves page output old new)
FilmsFailureInto source title chapters program address failure page old new (Err _) = new ≡ old
