-- Counts of steps by the addresses where they began: a list of 65,536. This project's profile.
use Rattle.std.specs.Prelude.{◌≡◌, ℕ, ◌+◌, ◌≤◌, List, length, slice_index_or}
use Rattle.std.specs.List.{sum_by}
use Rattle.a2_profile.specs.declared.profile.Count.{Count}

-- no step
abbrev pub none : Count
none = record { times = 0; cycles = 0; taken = 0 }

-- the steps of both
abbrev pub joined : Count → Count → Count
joined count other = record {
  times = count.times + other.times;
  cycles = count.cycles + other.cycles;
  taken = count.taken + other.taken;
}

-- the count at an address
abbrev pub count_at : List Count → ℕ → Count
count_at counts address = slice_index_or counts address none

-- the steps of all addresses, and their cycles
abbrev pub steps_in : List Count → ℕ
steps_in counts = sum_by (λ count. count.times) counts

abbrev pub cycles_in : List Count → ℕ
cycles_in counts = sum_by (λ count. count.cycles) counts

-- at no address are more steps taken than executed
abbrev pub NoneTakenMore : List Count → Type 0
NoneTakenMore counts = (address : ℕ) → (count_at counts address).taken ≤ (count_at counts address).times

-- there is a count for each address; together they are so many steps and cycles
pub record AreSummed (counts : List Count) (steps cycles : ℕ) : Type 0 where
  pub size : length counts ≡ 65536
  pub steps_are : steps_in counts ≡ steps
  pub cycles_are : cycles_in counts ≡ cycles
  pub taken : NoneTakenMore counts
