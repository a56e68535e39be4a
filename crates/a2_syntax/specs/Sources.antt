-- A source text and its lines, or its first error. This project's profile.
use Rattle.std.specs.Prelude.{◌≡◌, ℕ, ◌+◌, List, ◌∷◌, ◌++◌, length, Some, None, ◌⊎◌}
use Rattle.std.specs.List.{AllZip}
use Rattle.a2_text.specs.Lines.{lines}
use Rattle.a2_syntax.specs.Limits.{size_error}
use Rattle.a2_syntax.specs.Grammar.{IsLine}
use Rattle.a2_syntax.specs.Bare.{BareLine}
use Rattle.a2_syntax.specs.declared.source.Line.{Line}
use Rattle.a2_syntax.specs.declared.fault.Fault.{Fault}
use Rattle.a2_syntax.specs.declared.fault.Fault.TheVariants.{Syntax}

-- the lines of a text, one for one
abbrev pub AreLines : {A : Type 0} → List (List ℕ) → List (Line A) → Type 0
AreLines {A} = AllZip (IsLine {A = A})

-- a text within the limits, and its lines
abbrev pub IsSource : List ℕ → List BareLine → Type 0
IsSource text source = (size_error text ≡ None) × AreLines (lines text) source

-- the line with this number is the first that does not follow the grammar
abbrev pub IsFirstBadLine : List (List ℕ) → ℕ → Type 0
IsFirstBadLine texts n =
    (before : List (List ℕ)) × (text : List ℕ) × (after : List (List ℕ)) × (texts ≡ before ++ text ∷ after) × (n ≡ length before + 1) ×
    ((read : List BareLine) × AreLines before read) × ((line : BareLine) → IsLine text line → ⊥)

-- the first error of a text that is not a valid source
abbrev pub IsSourceError : List ℕ → Fault → Type 0
IsSourceError text fault =
    (size_error text ≡ Some fault) ⊎
    ((size_error text ≡ None) × (n : ℕ) × (fault ≡ Syntax n) × IsFirstBadLine (lines text) n)
