-- The result of what is done by hand. No public clause cites this file.
use Rattle.std.specs.Prelude.{◌≡◌, List}
use Rattle.a2_machine.specs.State.{MachineState, world_of_state}
use Rattle.a2_history.specs.declared.actions.Action.{Action}
use Rattle.a2_history.specs.declared.actions.Logged.{Logged}
use Rattle.a2_history.specs.Courses.{with_action, with_logged}

-- this was done
pub record IsActed (action : Action) (old new : MachineState) : Type 0 where
  pub world : world_of_state new ≡ with_action action (world_of_state old)
  pub steps : new.steps ≡ old.steps
  pub guard : new.guard ≡ old.guard

-- what a log holds for the position was done
pub record IsActedBy (log : List Logged) (old new : MachineState) : Type 0 where
  pub world : world_of_state new ≡ with_logged log old.steps (world_of_state old)
  pub steps : new.steps ≡ old.steps
  pub guard : new.guard ≡ old.guard
