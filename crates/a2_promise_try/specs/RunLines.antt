-- The lines of a text without those about its own run. This project's own.
use Rattle.std.specs.Prelude.{◌≡◌, ◌⊎◌, ◌==◌, ℕ, suc, List, [], ◌∷◌, length, Some, slice_get, if◌then◌else◌}
use Rattle.std.specs.List.{All}
use Rattle.a2_promise.specs.MarkedLines.{Says}
use Rattle.a2_tests.specs.declared.line.NumberedLine.{NumberedLine}
use Rattle.a2_tests.specs.Cases.{CaseLines, cases_in}

-- the same line, or a blank one in place of a line that begins with `;:`
abbrev pub IsOther : List ℕ → List ℕ → Type 0
IsOther line other = (other ≡ line) ⊎ ((other ≡ []) × ((text : List ℕ) × Says line text))

abbrev pub AreOthers : List (List ℕ) → List (List ℕ) → Type 0
AreOthers [] [] = Unit {0}
AreOthers (line ∷ lines) (other ∷ others) = IsOther line other × AreOthers lines others
AreOthers _ _ = ⊥

-- a line about the run has the number of a line of the text that begins with `;:`
pub record IsAsked (lines : List (List ℕ)) (asked : NumberedLine) : Type 0 where
  pub above : ℕ
  pub number : asked.number ≡ suc above
  pub line : List ℕ
  pub stands : slice_get lines above ≡ Some line
  pub text : List ℕ
  pub says : Says line text

-- the cases of these lines; without lines there are none
abbrev pub cases_or_none : List NumberedLine → List CaseLines
cases_or_none asked = if length asked == 0 then [] else cases_in asked

-- the cases of the lines about the run of a text
pub record AreCasesOf (lines : List (List ℕ)) (cases : List CaseLines) : Type 0 where
  pub asked : List NumberedLine
  pub are_asked : All (IsAsked lines) asked
  pub are_cases : cases ≡ cases_or_none asked
