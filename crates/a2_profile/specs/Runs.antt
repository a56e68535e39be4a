-- Several runs of one program, each from the start with keys of its own waiting and with the same keys typed, and their sums. This project's profile.
use Rattle.std.specs.Prelude.{◌≡◌, ℕ, ◌<◌, Bool, true, false, List, [], ◌∷◌, All, length, map, find, slice_index_or, unwrap_or}
use Rattle.std.specs.List.{sum_by}
use Rattle.a2_asm.specs.Assembled.{Assembled}
use Rattle.a2_machine.specs.declared.causes.Cause.{Cause}
use Rattle.a2_machine.specs.declared.causes.Cause.TheVariants.{Returned}
use Rattle.a2_timed_keys.specs.declared.run.TypedFault.{TypedFault}
use Rattle.a2_timed_keys.specs.declared.run.TypedFault.TheVariants.{Full, Memory}
use Rattle.a2_timed_keys.specs.declared.strokes.Typed.{Typed}
use Rattle.a2_timed_keys.specs.Typed.{IsTypedFault}
use Rattle.a2_profile.specs.declared.profile.Count.{Count}
use Rattle.a2_profile.specs.declared.walk.Totals.{Totals}
use Rattle.a2_profile.specs.Counts.{none, joined, steps_in, cycles_in}
use Rattle.a2_profile.specs.Totals.{nothing, own_steps_in, own_cycles_in}
use Rattle.a2_profile.specs.Room.{joined_totals}
use Rattle.a2_profile.specs.Run.{IsProfile}
use Rattle.a2_profile.specs.Routines.{IsRoutineProfile}

-- a run: the keys that wait at its start, what is counted of it, and the cause of its end
pub record Ran (T : Type 0) : Type 0 where
  pub keys : List ℕ
  pub counted : T
  pub cause : Cause

-- these runs have the keys, in this order, and end by the causes
pub record AreRuns {T : Type 0} (IsRun : List ℕ → T → Cause → Type 0) (runs : List (Ran T))
    (keys : List (List ℕ)) (causes : List Cause) : Type 0 where
  pub each : All (λ run. IsRun run.keys run.counted run.cause) runs
  pub keys_are : map (λ run. run.keys) runs ≡ keys
  pub causes_are : map (λ run. run.cause) runs ≡ causes

-- what is counted at an index in all of these runs, added to a sum one after another
abbrev pub added_up : {T : Type 0} → (T → T → T) → T → ℕ → T → List (Ran (List T)) → T
added_up join empty index sum [] = sum
added_up join empty index sum (run ∷ runs) = added_up join empty index (join sum (slice_index_or run.counted index empty)) runs

-- the runs with these keys end by the causes, and what is counted is the sum over them, at each index and of all steps and cycles
pub record IsSum {T : Type 0} (join : T → T → T) (empty : T) (steps_in cycles_in : List T → ℕ)
    (IsRun : List ℕ → List T → Cause → Type 0) (keys : List (List ℕ)) (counted : List T) (causes : List Cause) : Type 0 where
  pub runs : List (Ran (List T))
  pub are_runs : AreRuns IsRun runs keys causes
  pub items_are : (index : ℕ) → slice_index_or counted index empty ≡ added_up join empty index empty runs
  pub steps_are : steps_in counted ≡ sum_by (λ run. steps_in run.counted) runs
  pub cycles_are : cycles_in counted ≡ sum_by (λ run. cycles_in run.counted) runs

-- that is so of the counts of a program's runs
abbrev pub IsProfileOfAll : Assembled → List (List ℕ) → List Typed → ℕ → Bool → List Count → List Cause → Type 0
IsProfileOfAll program keys log limit free counts causes =
    IsSum joined none steps_in cycles_in (λ keys counts cause. IsProfile program keys log limit free counts cause) keys counts causes

-- the same by routine
abbrev pub IsRoutineProfileOfAll : Assembled → List (List ℕ) → List Typed → ℕ → Bool → List Totals → List Cause → Type 0
IsRoutineProfileOfAll program keys log limit free totals causes =
    IsSum joined_totals nothing own_steps_in own_cycles_in
    (λ keys totals cause. IsRoutineProfile program keys log limit free totals cause) keys totals causes

-- one of the runs has no end, because after so many steps more than 4,096 keys would wait; or there was not enough memory
abbrev pub IsFaultOfAll : Assembled → List (List ℕ) → List Typed → ℕ → Bool → TypedFault → Type 0
IsFaultOfAll program keys log limit free (Full steps) =
    (run : ℕ) × (run < length keys) × IsTypedFault program (slice_index_or keys run []) log limit free (Full steps)
IsFaultOfAll program keys log limit free Memory = Unit {0}

abbrev pub is_stop : Cause → Bool
is_stop Returned = false
is_stop _ = true

-- the cause that stands for all: the first that is not RETURNED, or else that
abbrev pub first_stop : List Cause → Cause
first_stop causes = unwrap_or (find is_stop causes) Returned
