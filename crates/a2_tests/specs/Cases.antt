-- The lines and the cases of a WANT file. This project's profile.
use Rattle.std.specs.Prelude.{◌≡◌, ℕ, ◌+◌, Bool, true, false, List, [], ◌∷◌, ◌++◌, Option, Some, None, is_some, if◌then◌else◌}
use Rattle.std.specs.List.{before_first, list_any}
use Rattle.a2_machine.specs.declared.causes.Cause.TheVariants.{Returned}
use Rattle.a2_tests.specs.declared.cases.Case.{Case}
use Rattle.a2_tests.specs.declared.line.NumberedLine.{NumberedLine}
use Rattle.a2_tests.specs.declared.line.Line.{Line}
use Rattle.a2_tests.specs.declared.line.Line.TheVariants as line

-- the lines of these texts are numbered from a number on
abbrev pub AreLines : ℕ → List (List ℕ) → List NumberedLine → Type 0
AreLines n [] [] = Unit {0}
AreLines n (text ∷ texts) (asked ∷ lines) = (asked.number ≡ n) × AreLines (n + 1) texts lines
AreLines n _ _ = ⊥

-- the name of the case that a line begins
abbrev pub name_of : Line → Option (List ℕ)
name_of (line.Case name) = Some name.now
name_of _ = None

abbrev pub begins_case : NumberedLine → Bool
begins_case asked = is_some (name_of asked.line)

-- whether a line says how the run stops
abbrev pub is_stop : Line → Bool
is_stop (line.Stop cause) = true
is_stop _ = false

abbrev pub says_stop : NumberedLine → Bool
says_stop asked = is_stop asked.line

-- the number of the last line that calls a routine
abbrev pub caller_or : Option ℕ → ℕ → Line → Option ℕ
caller_or before number (line.Call call) = Some number
caller_or before number _ = before

abbrev pub caller_from : Option ℕ → List NumberedLine → Option ℕ
caller_from before [] = before
caller_from before (asked ∷ rest) = caller_from (caller_or before asked.number asked.line) rest

-- the requirement that a routine returns, on the line that calls it
abbrev pub returning_at : Option ℕ → List NumberedLine
returning_at None = []
returning_at (Some number) = record { number = number; line = line.Stop Returned } ∷ []

-- a routine that these lines call must return, unless one of them says how the run stops
abbrev pub returning : List NumberedLine → List NumberedLine
returning lines = if list_any says_stop lines then [] else returning_at (caller_from None lines)

-- the last line that names a recording
abbrev pub names_recording : Line → Bool
names_recording (line.Replay name) = true
names_recording _ = false

abbrev pub replay_or : Option NumberedLine → NumberedLine → Option NumberedLine
replay_or before asked = if names_recording asked.line then Some asked else before

abbrev pub replay_from : Option NumberedLine → List NumberedLine → Option NumberedLine
replay_from before [] = before
replay_from before (asked ∷ rest) = replay_from (replay_or before asked) rest

-- a line that a recording rules out, because a session is repeated with its own keys and with the guard
abbrev pub rules_out : Line → Bool
rules_out (line.Keys text) = true
rules_out (line.KeysAt text) = true
rules_out line.Free = true
rules_out _ = false

abbrev pub is_ruled_out : NumberedLine → Bool
is_ruled_out asked = rules_out asked.line

-- a case: its name, and all that it requires
pub record CaseLines : Type 0 where
  pub name : List ℕ
  pub lines : List NumberedLine

abbrev pub case_of : {A : Type 0} → Case A → CaseLines
case_of case = record { name = case.name.now; lines = case.lines.items }

-- the case with this name that has these lines
abbrev pub case_with : List ℕ → List NumberedLine → CaseLines
case_with name lines = record { name = name; lines = returning lines ++ lines }

-- each line that begins a case, with the lines up to the next one; the lines of the head come before them
abbrev pub cases_from : List NumberedLine → List NumberedLine → List CaseLines
cases_from head [] = []
cases_from head (asked ∷ rest) =
    elim (name_of asked.line) [
      | None ↦ cases_from head rest
      | Some name ↦ case_with name (head ++ before_first begins_case rest) ∷ cases_from head rest
    ]

-- if no line begins a case, all lines are a single case without a name
abbrev pub or_whole : List NumberedLine → List CaseLines → List CaseLines
or_whole lines [] = case_with [] lines ∷ []
or_whole lines (case ∷ cases) = case ∷ cases

-- the cases of some lines; those before the first case belong to each
abbrev pub cases_in : List NumberedLine → List CaseLines
cases_in lines = or_whole lines (cases_from (before_first begins_case lines) lines)
