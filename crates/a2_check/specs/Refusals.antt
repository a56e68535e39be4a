-- The errors of a text. There are none if it is accepted. If it is too large, that is the only error. Otherwise there is an error
-- for each line that is not in the grammar; if there is no such line, there are the errors of its layout. This project's profile.
use Rattle.std.specs.Prelude.{◌≡◌, ◌⊎◌, ℕ, ◌<◌, List, [], ◌∷◌, length, map, Some, None}
use Rattle.a2_text.specs.Lines.{lines}
use Rattle.a2_syntax.specs.Bare.{BareLine}
use Rattle.a2_syntax.specs.Limits.{size_error}
use Rattle.a2_syntax.specs.Sources.{IsSource}
use Rattle.a2_syntax.specs.declared.fault.Fault.{Fault}
use Rattle.a2_syntax.specs.declared.fault.Fault.TheVariants.{Syntax}
use Rattle.a2_asm.specs.Every.{AreLayoutErrors}
use Rattle.a2_asm.specs.Programs.{IsProgram}
use Rattle.a2_check.specs.Unread.{AreUnread}
use Rattle.a2_check.specs.declared.verdict.Verdict.{Verdict}
use Rattle.a2_check.specs.declared.verdict.Verdict.TheVariants.{Accepted, Refused}

-- errors for all lines that are not in the grammar, at least one
abbrev pub AreOfGrammar : List (List ℕ) → List Fault → Type 0
AreOfGrammar texts faults = (numbers : List ℕ) × (faults ≡ map Syntax numbers) × (0 < length numbers) × AreUnread texts numbers

-- the text is too large, or has lines that are not in the grammar
abbrev pub AreOfText : List ℕ → List Fault → Type 0
AreOfText text faults =
    ((fault : Fault) × (faults ≡ fault ∷ []) × (size_error text ≡ Some fault)) ⊎
    ((size_error text ≡ None) × AreOfGrammar (lines text) faults)

-- all errors that are reported for a text
abbrev pub AreRefusals : List ℕ → List Fault → Type 0
AreRefusals text faults = AreOfText text faults ⊎ ((source : List BareLine) × IsSource text source × AreLayoutErrors source faults)

-- the result of checking a text: lines that make a program, or at least one error
abbrev pub IsVerdict : {A : Type 0} → List ℕ → Verdict A → Type 0
IsVerdict text (Accepted source program) = IsSource text source × IsProgram source program
IsVerdict text (Refused faults) = AreRefusals text faults.items × (0 < length faults.items)
