-- What is executed in the routines of a run. A routine is entered by a JSR, and left as `entered` says. This project's profile.
use Rattle.std.specs.Prelude.{◌≡◌, ℕ, suc, ◌-◌, ◌<◌, ◌==◌, ◌&&◌, Bool, List, ◌∷◌, map, length, slice_index, if◌then◌else◌}
use Rattle.std.specs.List.{list_any}
use Rattle.a2_asm.specs.Assembled.{Assembled}
use Rattle.a2_services.specs.World.{World}
use Rattle.a2_machine.specs.declared.causes.Cause.{Cause}
use Rattle.a2_machine.specs.Meaning.{Code, End}
use Rattle.a2_run.specs.Meaning.{code_of_run, start_of_run}
use Rattle.a2_timed_keys.specs.declared.strokes.Typed.{Typed}
use Rattle.a2_timed_keys.specs.Typed.{world_with_keys, IsTypedEnd}
use Rattle.a2_routines.specs.Routines.{is_call, begin_of, entered}
use Rattle.a2_profile.specs.declared.walk.Totals.{Totals}
use Rattle.a2_profile.specs.Run.{over_steps, is_at, cost}
use Rattle.a2_profile.specs.Totals.{itself, totals_at, own_steps_in, own_cycles_in}

-- what a step is executed in, the outermost first: the program itself, and the routines entered and not left
abbrev pub around : (ℕ → World) → ℕ → List ℕ
around worlds n = itself ∷ map (begin_of worlds) (entered worlds n)

abbrev pub innermost : List ℕ → ℕ
innermost routines = slice_index routines (length routines - 1)

-- the step is executed in a routine, or in what that calls; a routine that calls itself counts once
abbrev pub is_in : (ℕ → World) → ℕ → ℕ → Bool
is_in worlds routine n = list_any (λ r. r == routine) (around worlds n)

-- the step is the routine's own
abbrev pub is_own : (ℕ → World) → ℕ → ℕ → Bool
is_own worlds routine n = innermost (around worlds n) == routine

-- the step is a JSR to the routine
abbrev pub is_entry : (ℕ → World) → ℕ → ℕ → Bool
is_entry worlds routine n = is_call (worlds n) && is_at (worlds (suc n)) routine

-- the totals of a routine over the first n steps: how often it was entered, its own steps with their cycles, and the same including
-- what it calls
unfoldable pub totals_of : (ℕ → World) → ℕ → ℕ → Totals
totals_of worlds n routine = record {
  times = over_steps (λ k. if is_entry worlds routine k then 1 else 0) n;
  steps = over_steps (λ k. if is_own worlds routine k then 1 else 0) n;
  cycles = over_steps (λ k. if is_own worlds routine k then cost worlds k else 0) n;
  all_steps = over_steps (λ k. if is_in worlds routine k then 1 else 0) n;
  all_cycles = over_steps (λ k. if is_in worlds routine k then cost worlds k else 0) n;
}

-- a run with a limit, in which these keys are typed, ends by this cause, and these are the totals of its routines and of the program
-- itself; their own steps and cycles together are those of the run
pub record AreTotals (code : Code) (start : World) (log : List Typed) (limit : ℕ) (totals : List Totals) (cause : Cause) : Type 0 where
  pub end : End
  pub is_end : IsTypedEnd code start log limit end
  pub cause_is : cause ≡ end.cause
  pub totals_are : (routine : ℕ) → routine < 65537
      → totals_at totals routine ≡ totals_of (world_with_keys code start log) end.steps routine
  pub steps_are : own_steps_in totals ≡ end.steps
  pub cycles_are : own_cycles_in totals ≡ end.world.cycles

-- the same of a program's run with these keys waiting, with the code and start of the run of `IsRun`
abbrev pub IsRoutineProfile : Assembled → List ℕ → List Typed → ℕ → Bool → List Totals → Cause → Type 0
IsRoutineProfile program keys log limit free totals cause =
    AreTotals (code_of_run free program) (start_of_run program keys) log limit totals cause
