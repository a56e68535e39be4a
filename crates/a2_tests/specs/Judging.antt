-- The verdict on a case of a source. This project's profile.
use Rattle.std.specs.Prelude.{◌≡◌, ◌⊎◌, ℕ, ◌<◌, Bool, true, false, List, [], ◌∷◌, ◌++◌, length, Option, Some, None, slice_get}
use Rattle.std.specs.List.{list_any}
use Rattle.std.specs.Option.{option_map}
use Rattle.a2_bus.specs.KeyText.{SpellsKeys}
use Rattle.a2_syntax.specs.declared.fault.Fault.{Fault}
use Rattle.a2_asm.specs.Assembled.{Assembled}
use Rattle.a2_machine.specs.Meaning.{End}
use Rattle.a2_run.specs.Limits.{default_steps}
use Rattle.a2_run.specs.Meaning.{IsProgramOf, IsRefused, code_of_run, start_of_run}
use Rattle.a2_timed_keys.specs.Typed.{IsOverfull, IsTypedEnd, typed_after}
use Rattle.a2_timed_keys.specs.Words.{IsStroke}
use Rattle.a2_timed_keys.specs.declared.strokes.Typed.{Typed}
use Rattle.a2_tests.specs.Requirements.{MeetsAll, IsFirstMissed}
use Rattle.a2_tests.specs.Calls.{case_text}
use Rattle.a2_tests.specs.declared.line.NumberedLine.{NumberedLine}
use Rattle.a2_tests.specs.declared.line.Line.{Line}
use Rattle.a2_tests.specs.declared.line.Line.TheVariants.{Keys, KeysAt, Free, Limit}
use Rattle.a2_tests.specs.declared.cases.Case.{Case}
use Rattle.a2_tests.specs.declared.cases.Session.{Session}
use Rattle.a2_tests.specs.declared.judge.Verdict.{Verdict}
use Rattle.a2_tests.specs.declared.judge.Verdict.TheVariants.{Passed, Missed, NotCalled, Overfull}

-- the most steps of a case: the last line with a limit counts; without one, it is the steps of the session that it replays, or
-- the default
abbrev pub limit_or : ℕ → Line → ℕ
limit_or before (Limit n) = n
limit_or before _ = before

abbrev pub limit_from : ℕ → List NumberedLine → ℕ
limit_from before [] = before
limit_from before (asked ∷ rest) = limit_from (limit_or before asked.line) rest

abbrev pub session_steps : {A : Type 0} → Option (Session A) → ℕ
session_steps None = default_steps
session_steps (Some session) = session.steps

abbrev pub limit_of : {A : Type 0} → Case A → ℕ
limit_of case = limit_from (session_steps case.session) case.lines.items

-- the spelling of the keys that wait at the start: the last line with keys counts, and without one it is empty
abbrev pub keys_or : List ℕ → Line → List ℕ
keys_or before (Keys text) = text.now
keys_or before _ = before

abbrev pub keys_from : List ℕ → List NumberedLine → List ℕ
keys_from before [] = before
keys_from before (asked ∷ rest) = keys_from (keys_or before asked.line) rest

-- the number of a line in the WANT file
abbrev pub number_at : List NumberedLine → ℕ → Option ℕ
number_at lines n = option_map (λ asked. asked.number) (slice_get lines n)

-- a text spells these keys; there are no keys if it spells none that fit
abbrev pub AreKeys : List ℕ → List ℕ → Type 0
AreKeys text keys =
    SpellsKeys text keys ⊎ (((others : List ℕ) → SpellsKeys text others → 4096 < length others) × (keys ≡ []))

-- a text gives these keys with their steps; there are none if it gives none
abbrev pub AreStrokes : List ℕ → List Typed → Type 0
AreStrokes text log =
    ((steps : ℕ) × (keys : List ℕ) × IsStroke text steps keys × (log ≡ typed_after steps keys))
    ⊎ (((steps : ℕ) (keys : List ℕ) → IsStroke text steps keys → ⊥) × (log ≡ []))

-- a line says that these keys are typed on the way
abbrev pub LineTypes : Line → List Typed → Type 0
LineTypes (KeysAt text) log = AreStrokes text.now log
LineTypes _ log = log ≡ []

-- some lines say that these keys are typed on the way: those of the first, and then those of the others
abbrev pub LinesType : List NumberedLine → List Typed → Type 0
LinesType [] log = log ≡ []
LinesType (asked ∷ rest) log =
    (first : List Typed) × (others : List Typed) × LineTypes asked.line first × LinesType rest others × (log ≡ first ++ others)

-- the keys that are typed in a case: those of the session that it replays, or those of its lines, which are given
abbrev pub AreTyped : {A : Type 0} → Option (Session A) → List Typed → List Typed → Type 0
AreTyped None lines log = log ≡ lines
AreTyped (Some session) lines log = log ≡ session.log

-- the keys that are typed in a case with these lines
abbrev pub AreTypedIn : {A : Type 0} → Option (Session A) → List NumberedLine → List Typed → Type 0
AreTypedIn None lines log = LinesType lines log
AreTypedIn (Some session) lines log = log ≡ session.log

-- whether a line says that the run is not guarded
abbrev pub is_free : Line → Bool
is_free Free = true
is_free _ = false

abbrev pub says_free : NumberedLine → Bool
says_free asked = is_free asked.line

-- the verdict on the end of a case's run: it passed, and all its lines are met; or this is the number of its first line
-- that is not met. The statements and names that a line mentions are those of the source's program.
abbrev pub IsVerdictOnEnd : {A : Type 0} → List NumberedLine → Assembled → End → Verdict A → Type 0
IsVerdictOnEnd lines program end Passed = MeetsAll lines program end
IsVerdictOnEnd lines program end (Missed number report) = (n : ℕ) × IsFirstMissed lines program end n × (number_at lines n ≡ Some number)
IsVerdictOnEnd lines program end _ = ⊥

-- the verdict that more keys would wait than fit
abbrev pub IsOverfullVerdict : {A : Type 0} → Verdict A → Type 0
IsOverfullVerdict (Overfull report) = Unit {0}
IsOverfullVerdict _ = ⊥

-- the verdict on a run with these keys, limit and guard: it follows from the end of the run; or the run has no end, because more
-- keys would wait than fit
abbrev pub IsVerdictOnRun : {A : Type 0} → List NumberedLine → Assembled → Assembled → Verdict A → List ℕ → List Typed → ℕ → Bool → Type 0
IsVerdictOnRun lines program running verdict keys log limit free =
    ((end : End) × IsTypedEnd (code_of_run free running) (start_of_run running keys) log limit end × IsVerdictOnEnd lines program end verdict)
    ⊎ (IsOverfullVerdict verdict × ((steps : ℕ) × IsOverfull (code_of_run free running) (start_of_run running keys) log limit steps))

-- the verdict on the run that a case asks for
pub record IsVerdictOnCase {A B : Type 0} (case : Case A) (program running : Assembled) (verdict : Verdict B) : Type 0 where
  pub keys : List ℕ
  pub are_keys : AreKeys (keys_from [] case.lines.items) keys
  pub log : List Typed
  pub are_typed : AreTypedIn case.session case.lines.items log
  pub is_verdict : IsVerdictOnRun case.lines.items program running verdict keys log (limit_of case) (list_any says_free case.lines.items)

-- the verdict that a routine cannot be called
abbrev pub IsNotCalled : {A : Type 0} → Verdict A → Type 0
IsNotCalled (NotCalled report) = Unit {0}
IsNotCalled _ = ⊥

-- the verdict on a case in which this text runs, for a source with this program: it follows from the run; or the text has errors,
-- so no routine is called
abbrev pub IsVerdictOf : {A B : Type 0} → Case A → List ℕ → Assembled → Verdict B → Type 0
IsVerdictOf case text program verdict =
    ((running : Assembled) × IsProgramOf text running × IsVerdictOnCase case program running verdict)
    ⊎ (IsNotCalled verdict × ((fault : Fault) × IsRefused text fault))

abbrev pub IsVerdict : {A B : Type 0} → Case A → List ℕ → Assembled → Verdict B → Type 0
IsVerdict case source program verdict = IsVerdictOf case (case_text case.lines.items source) program verdict

-- the verdicts on some cases, in their order
abbrev pub AreVerdicts : {A B : Type 0} → List ℕ → Assembled → List (Case A) → List (Verdict B) → Type 0
AreVerdicts source program [] [] = Unit {0}
AreVerdicts source program (case ∷ cases) (verdict ∷ verdicts) =
    IsVerdict case source program verdict × AreVerdicts source program cases verdicts
AreVerdicts source program _ _ = ⊥
