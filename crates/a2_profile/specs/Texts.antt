-- The profile of a text's runs, and what is written of it. This project's profile.
use Rattle.std.specs.Prelude.{◌≡◌, ℕ, Bool, List, [], Result, Ok, Err}
use Rattle.a2_text.specs.Lines.{lines}
use Rattle.a2_stream.specs.Stream.{Taker, Sends, Breaks}
use Rattle.a2_asm.specs.Assembled.{Assembled}
use Rattle.a2_machine.specs.declared.causes.Cause.{Cause}
use Rattle.a2_run.specs.Meaning.{IsProgramOf}
use Rattle.a2_timed_keys.specs.declared.run.TypedFault.{TypedFault}
use Rattle.a2_timed_keys.specs.declared.strokes.Typed.{Typed}
use Rattle.a2_profile.specs.declared.profile.Count.{Count}
use Rattle.a2_profile.specs.declared.walk.Totals.{Totals}
use Rattle.a2_profile.specs.declared.source.Format.{Format}
use Rattle.a2_profile.specs.declared.source.Format.TheVariants.{Text, Json, Callgrind}
use Rattle.a2_profile.specs.declared.source.ProfileFault.{ProfileFault}
use Rattle.a2_profile.specs.declared.source.ProfileFault.TheVariants.{Run, Write}
use Rattle.a2_profile.specs.Runs.{IsProfileOfAll, IsRoutineProfileOfAll, IsFaultOfAll}
use Rattle.a2_profile.specs.Table.{profile_table}
use Rattle.a2_profile.specs.RoutineTable.{routine_table}
use Rattle.a2_profile.specs.Json.{json_profile, json_routines}
use Rattle.a2_profile.specs.Callgrind.{callgrind_profile, callgrind_routines}

-- what is written of a profile of a program, whose source has this name and these lines, and whose runs end by these causes
abbrev pub profile_text : Format → List ℕ → Assembled → List (List ℕ) → List Count → List Cause → List ℕ
profile_text Text name program texts counts causes = profile_table program texts counts
profile_text Json name program texts counts causes = json_profile program texts counts causes
profile_text Callgrind name program texts counts causes = callgrind_profile name program texts counts

-- the same by routine
abbrev pub routines_text : Format → List ℕ → Assembled → List Totals → List Cause → List ℕ
routines_text Text name program totals causes = routine_table program totals
routines_text Json name program totals causes = json_routines program totals causes
routines_text Callgrind name program totals causes = callgrind_routines name program totals

-- the runs of a text with these keys waiting end by these causes, and this is written of their profile
pub record IsProfileOf (format : Format) (name text : List ℕ) (keys : List (List ℕ)) (log : List Typed) (limit : ℕ) (free : Bool)
    (causes : List Cause) (output : List ℕ) : Type 0 where
  pub program : Assembled
  pub is_program : IsProgramOf text program
  pub counts : List Count
  pub is_profile : IsProfileOfAll program keys log limit free counts causes
  pub output_is : output ≡ profile_text format name program (lines text) counts causes

-- the same by routine
pub record IsRoutineProfileOf (format : Format) (name text : List ℕ) (keys : List (List ℕ)) (log : List Typed) (limit : ℕ) (free : Bool)
    (causes : List Cause) (output : List ℕ) : Type 0 where
  pub program : Assembled
  pub is_program : IsProgramOf text program
  pub totals : List Totals
  pub is_profile : IsRoutineProfileOfAll program keys log limit free totals causes
  pub output_is : output ≡ routines_text format name program totals causes

-- the runs of a text have this fault
pub record IsFaultOf (text : List ℕ) (keys : List (List ℕ)) (log : List Typed) (limit : ℕ) (free : Bool) (fault : TypedFault) : Type 0 where
  pub program : Assembled
  pub is_program : IsProgramOf text program
  pub is_fault : IsFaultOfAll program keys log limit free fault

-- The result is the runs' causes, and their profile was written; or a write failed, and a front of it was written; or the runs have
-- a fault, and nothing was written.
abbrev pub ProfileAnswers : {T : Type 0} → (TypedFault → Type 0) → (T → List ℕ → Type 0) → Taker → Taker → Result T ProfileFault → Type 0
ProfileAnswers refuses gives old new (Ok value) = (output : List ℕ) × gives value output × Sends old new output
ProfileAnswers {T} refuses gives old new (Err Write) = (value : T) × (output : List ℕ) × gives value output × Breaks old new output
ProfileAnswers refuses gives old new (Err (Run fault)) = refuses fault × Sends old new []
