-- What is counted of routines: a list of 65,537 totals, those of the routines by the addresses where they begin, and last that of
-- the program itself. This project's profile.
use Rattle.std.specs.Prelude.{◌≡◌, ℕ, ◌<◌, ◌≤◌, List, length, slice_index_or}
use Rattle.std.specs.List.{sum_by}
use Rattle.a2_profile.specs.declared.walk.Totals.{Totals}

-- the number of the program itself
abbrev pub itself : ℕ
itself = 65536

-- no step
abbrev pub nothing : Totals
nothing = record { times = 0; steps = 0; cycles = 0; all_steps = 0; all_cycles = 0 }

-- the totals of a routine
abbrev pub totals_at : List Totals → ℕ → Totals
totals_at totals routine = slice_index_or totals routine nothing

-- the own steps of all routines, and their cycles
abbrev pub own_steps_in : List Totals → ℕ
own_steps_in totals = sum_by (λ t. t.steps) totals

abbrev pub own_cycles_in : List Totals → ℕ
own_cycles_in totals = sum_by (λ t. t.cycles) totals

-- there are totals for each routine; their own ones together are so many steps and cycles, and none has more cycles
pub record AreSummed (totals : List Totals) (steps cycles : ℕ) : Type 0 where
  pub size : length totals ≡ 65537
  pub steps_are : own_steps_in totals ≡ steps
  pub cycles_are : own_cycles_in totals ≡ cycles
  pub within : (routine : ℕ) → routine < 65537 → (totals_at totals routine).all_cycles ≤ cycles
