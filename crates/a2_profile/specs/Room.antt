-- Whether the totals of two profiles can be added up in 64 bits. This project's profile.
use Rattle.std.specs.Prelude.{ℕ, ◌+◌, ◌^◌, ◌<◌, List}
use Rattle.a2_profile.specs.declared.walk.Totals.{Totals}
use Rattle.a2_profile.specs.Totals.{totals_at, own_steps_in, own_cycles_in}

-- the totals of both
abbrev pub joined_totals : Totals → Totals → Totals
joined_totals t other = record {
  times = t.times + other.times;
  steps = t.steps + other.steps;
  cycles = t.cycles + other.cycles;
  all_steps = t.all_steps + other.all_steps;
  all_cycles = t.all_cycles + other.all_cycles;
}

-- how often a routine was entered, and its steps including what it calls, are below 2^64
abbrev pub Fit : Totals → Totals → Type 0
Fit t other = (t.times + other.times < 2 ^ 64) × (t.all_steps + other.all_steps < 2 ^ 64)

-- that is so for each routine, and for all steps and cycles
pub record HaveRoom (totals others : List Totals) : Type 0 where
  pub each : (routine : ℕ) → Fit (totals_at totals routine) (totals_at others routine)
  pub steps : own_steps_in totals + own_steps_in others < 2 ^ 64
  pub cycles : own_cycles_in totals + own_cycles_in others < 2 ^ 64
