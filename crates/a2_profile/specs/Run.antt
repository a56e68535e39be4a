-- How often the steps of a run are executed, by the address where they begin, and what they cost. This project's profile.
use Rattle.std.specs.Prelude.{◌≡◌, ℕ, zero, suc, ◌+◌, ◌-◌, ◌%◌, ◌<◌, ◌==◌, ◌&&◌, not, Bool, List, if◌then◌else◌}
use Rattle.a2_asm.specs.Assembled.{Assembled}
use Rattle.a2_services.specs.World.{World}
use Rattle.a2_machine.specs.declared.causes.Cause.{Cause}
use Rattle.a2_machine.specs.Meaning.{Code, End}
use Rattle.a2_run.specs.Meaning.{code_of_run, start_of_run}
use Rattle.a2_timed_keys.specs.declared.strokes.Typed.{Typed}
use Rattle.a2_timed_keys.specs.Typed.{world_with_keys, IsTypedEnd}
use Rattle.a2_profile.specs.declared.profile.Count.{Count}
use Rattle.a2_profile.specs.Counts.{count_at, steps_in, cycles_in}

-- the sum of a number over the first n steps, which count from 0
abbrev pub over_steps : (ℕ → ℕ) → ℕ → ℕ
over_steps number zero = 0
over_steps number (suc n) = over_steps number n + number n

abbrev pub is_at : World → ℕ → Bool
is_at world address = world.registers.pc == address

-- the cycles that a step takes
abbrev pub cost : (ℕ → World) → ℕ → ℕ
cost worlds n = (worlds (suc n)).cycles - (worlds n).cycles

-- how many of the first n steps between these worlds begin at an address
unfoldable pub done_at : (ℕ → World) → ℕ → ℕ → ℕ
done_at worlds address n = over_steps (λ k. if is_at (worlds k) address then 1 else 0) n

-- the cycles that these take
unfoldable pub cycles_at : (ℕ → World) → ℕ → ℕ → ℕ
cycles_at worlds address n = over_steps (λ k. if is_at (worlds k) address then cost worlds k else 0) n

-- how many of them do not continue two bytes further, where a branch continues that is not taken
unfoldable pub taken_at : (ℕ → World) → ℕ → ℕ → ℕ
taken_at worlds address n =
    over_steps (λ k. if is_at (worlds k) address && not (is_at (worlds (suc k)) ((address + 2) % 65536)) then 1 else 0) n

-- the count of an address
abbrev pub count_of : (ℕ → World) → ℕ → ℕ → Count
count_of worlds n address =
    record { times = done_at worlds address n; cycles = cycles_at worlds address n; taken = taken_at worlds address n }

-- a run with a limit, in which these keys are typed, ends by this cause, and these are the counts of its steps at each address; all
-- together are the run's steps and cycles
pub record AreCounts (code : Code) (start : World) (log : List Typed) (limit : ℕ) (counts : List Count) (cause : Cause) : Type 0 where
  pub end : End
  pub is_end : IsTypedEnd code start log limit end
  pub cause_is : cause ≡ end.cause
  pub counts_are : (address : ℕ) → address < 65536
      → count_at counts address ≡ count_of (world_with_keys code start log) end.steps address
  pub steps_are : steps_in counts ≡ end.steps
  pub cycles_are : cycles_in counts ≡ end.world.cycles

-- the same of a program's run with these keys waiting, with the code and start of the run of `IsRun`
abbrev pub IsProfile : Assembled → List ℕ → List Typed → ℕ → Bool → List Count → Cause → Type 0
IsProfile program keys log limit free counts cause =
    AreCounts (code_of_run free program) (start_of_run program keys) log limit counts cause
