-- The notes beside the lines of the Monitor's answers. This project's profile.
use Rattle.std.specs.Prelude.{◌≡◌, ◌⊎◌, ℕ, ◌==◌, false, List, ◌++◌, codes, All}
use Rattle.std.specs.List.{flat_map}
use Rattle.a2_monitor_session.specs.Calls.{Attended}
use Rattle.a2_monitor_session.specs.Monitors.{IsAnswer}

-- the text contains no end of a line
abbrev pub IsPlain : List ℕ → Type 0
IsPlain text = All (λ c. (c == 10) ≡ false) text

-- a line and the note beside it
pub record Row : Type 0 where
  pub line : List ℕ
  pub told : List ℕ

abbrev pub IsRow : Row → Type 0
IsRow row = IsPlain row.line × IsPlain row.told

-- the line without its note, and with it
abbrev pub line_without_note : Row → List ℕ
line_without_note row = row.line ++ codes "\n"

abbrev pub line_with_note : Row → List ℕ
line_with_note row = row.line ++ row.told ++ codes "\n"

-- a text is another one with notes after some of its lines, each before the end of the line
pub record IsBeside (own text : List ℕ) : Type 0 where
  pub rows : List Row
  pub are_rows : All IsRow rows
  pub rest : List ℕ
  pub own_is : own ≡ flat_map line_without_note rows ++ rest
  pub text_is : text ≡ flat_map line_with_note rows ++ rest

-- the same, or a line that reports that there was no memory for it
abbrev pub IsBesideOrNoMemory : List ℕ → List ℕ → Type 0
IsBesideOrNoMemory own text = IsBeside own text ⊎ (text ≡ codes "NO MEMORY FOR THE ANSWER\n")

-- the Monitor's own answer to a line, with these notes, and its effect
abbrev pub IsAnswerBeside : List ℕ → Attended → List ℕ → Attended → Type 0
IsAnswerBeside line old text new = (own : List ℕ) × IsAnswer line old own new × IsBesideOrNoMemory own text
