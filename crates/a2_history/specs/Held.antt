-- Which checkpoints are held. No public clause cites this file.
use Rattle.std.specs.Prelude.{◌≡◌, ◌⊎◌, ℕ, List, [], ◌∷◌, ◌++◌, All}
use Rattle.a2_machine.specs.State.{MachineState, Device, world_of_state}
use Rattle.a2_history.specs.Spacing.{IsKept, IsWidth}

-- one list is another with some checkpoints removed, none of which is kept
abbrev pub Thins : ℕ → ℕ → List Device → List Device → Type 0
Thins width now [] new = new ≡ []
Thins width now (d ∷ ds) new =
    ((IsKept width now d.state.steps → ⊥) × Thins width now ds new) ⊎ ((rest : List Device) × (new ≡ d ∷ rest) × Thins width now ds rest)

-- a machine is a copy of another, except for its guard
pub record IsCopy (state copy : MachineState) : Type 0 where
  pub world : world_of_state copy ≡ world_of_state state
  pub steps : copy.steps ≡ state.steps

-- the checkpoints that are kept, with or without a copy of a machine added
pub record Holds (most : ℕ) (state : MachineState) (old new : List Device) : Type 0 where
  pub width : ℕ
  pub width_is : IsWidth most state.steps width
  pub kept : List Device
  pub thinned : Thins width state.steps old kept
  pub wanted : All (λ d. IsKept width state.steps d.state.steps) kept
  pub added : (new ≡ kept) ⊎ ((copy : Device) × IsCopy state copy.state × (new ≡ kept ++ copy ∷ []))
