-- The layout as the first pass computes it, row after row. No public clause cites this file; public clauses refer to
-- any layout.
use Rattle.std.specs.Prelude.{ℕ, ◌+◌, List, [], ◌∷◌, ◌++◌, length, Option}
use Rattle.a2_syntax.specs.declared.fault.Fault.{Fault}
use Rattle.a2_syntax.specs.declared.source.Body.{Body}
use Rattle.a2_syntax.specs.declared.source.Line.{Line}
use Rattle.a2_asm.specs.declared.place.Place.{Place}
use Rattle.a2_asm.specs.Values.{Names}
use Rattle.a2_asm.specs.Layout.{Row, mode_in, size, next_of, label_of, names, end_of}
use Rattle.a2_asm.specs.Refusals.{refusal_in}

-- the place of a line, given the names that earlier lines define
abbrev pub next_place : {A : Type 0} → Names → ℕ → ℕ → Body A → Place
next_place earlier number here body = record { number = number; address = here; length = size earlier here body; mode = mode_in earlier here body }

-- the row of a line that follows these rows
abbrev pub next_row : {A : Type 0} → List (Row A) → Line A → Row A
next_row before line = record {
  line = line;
  place = next_place (names before) (length before + 1) (end_of before) line.body;
  next = next_of (names before) (end_of before) line.body;
  label = label_of (names before) (end_of before) line.body;
}

-- the rows of lines that follow these rows
abbrev pub next_rows : {A : Type 0} → List (Row A) → List (Line A) → List (Row A)
next_rows before [] = []
next_rows before (line ∷ lines) = next_row before line ∷ next_rows (before ++ next_row before line ∷ []) lines

-- the lines of a source at their places
abbrev pub source_rows : {A : Type 0} → List (Line A) → List (Row A)
source_rows source = next_rows [] source

-- the first error of the lines of a source with these rows
abbrev pub layout_error : {A : Type 0} → List (Line A) → Option Fault
layout_error source = refusal_in source (source_rows source)
