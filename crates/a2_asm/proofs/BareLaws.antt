-- Lines and the same lines without their allocator have the same results.
use Rattle.std.specs.Prelude.{◌≡◌, ℕ, ◌+◌, List, [], ◌∷◌, ◌++◌, length, map, Option, Some}
use Rattle.std.proofs.Common.{refl, sym, ap, ◌∙◌, subst}
use Rattle.std.proofs.lemmas.List.{length-map, map-append}
use Rattle.std.proofs.lemmas.List.Folds.{list_all-map, fold-map, flat_map-map}
use Rattle.std.proofs.lemmas.Simd.{map-map}
use Rattle.a2_text.specs.FirstError.{◌otherwise◌}
use Rattle.a2_opcode.specs.declared.Mnemonic.{Mnemonic}
use Rattle.a2_syntax.specs.declared.fault.Fault.{Fault}
use Rattle.a2_syntax.specs.declared.source.Term.{Term}
use Rattle.a2_syntax.specs.declared.source.Term.TheVariants.{Here}
use Rattle.a2_syntax.specs.declared.source.Expr.{Expr}
use Rattle.a2_syntax.specs.declared.source.Operand.{Operand}
use Rattle.a2_syntax.specs.declared.source.Operand.TheVariants.{Nothing}
use Rattle.a2_syntax.specs.declared.source.Body.{Body}
use Rattle.a2_syntax.specs.declared.source.Body.TheVariants.{Instr}
use Rattle.a2_syntax.specs.declared.source.Line.{Line}
use Rattle.a2_syntax.specs.Bare.{NoAllocator, BareLine, bare_term, bare_expr, bare_operand, bare_body, bare_line, bare}
use Rattle.a2_asm.specs.declared.place.Place.{Place}
use Rattle.a2_asm.specs.Assembled.{Assembled}
use Rattle.a2_asm.specs.Values.{Names, is_known_term, is_known, term_value, value_within}
use Rattle.a2_asm.specs.Modes.{mode_of}
use Rattle.a2_asm.specs.Layout.{Row, next_of, label_of, defined_by, names, end_of}
use Rattle.a2_asm.specs.Laying.{byte_from}
use Rattle.a2_asm.specs.Bytes.{bytes_of, image, is_instruction, statement_of, statements_of, first_instruction}
use Rattle.a2_asm.specs.Refusals.{first_error_in_order, refuse_names, refuse_place, refuse_operand, refuse_bytes, refuse_body, IsLayoutError}
use Rattle.a2_asm.specs.Pass.{next_place, next_row, next_rows, source_rows, layout_error}
use Rattle.a2_asm.specs.Programs.{IsProgram}
use Rattle.a2_asm.proofs.MadeLaws.{IsMade, program-of, refused-of}

module _ {A : Type 0} (all : Names) where
  known_term-bare : (t : Term A) → is_known_term all (bare_term {B = NoAllocator} t) ≡ is_known_term all t
  known_term-bare Here = refl
  known_term-bare _ = refl

  pub known-bare : (e : Expr A) → is_known all (bare_expr {B = NoAllocator} e) ≡ is_known all e
  known-bare e = simp (list_all-map, known_term-bare)

  term_value-bare : (here : ℕ) (t : Term A) → term_value all here (bare_term {B = NoAllocator} t) ≡ term_value all here t
  term_value-bare here Here = refl
  term_value-bare here _ = refl

  pub number-bare : (most here : ℕ) (e : Expr A) → value_within all most here (bare_expr {B = NoAllocator} e) ≡ value_within all most here e
  number-bare most here e = simp (fold-map, term_value-bare)

  mode-bare : (here : ℕ) (m : Mnemonic) (o : Operand A) → mode_of all here m (bare_operand {B = NoAllocator} o) ≡ mode_of all here m o
  mode-bare here m Nothing = refl
  mode-bare here m _ = search (known-bare, number-bare)

  bytes-bare : (place : Place) (body : Body A) → bytes_of all place (bare_body {B = NoAllocator} body) ≡ bytes_of all place body
  bytes-bare place (Instr m Nothing) = refl
  bytes-bare place _ = search (number-bare, map-map, flat_map-map)

  statement-bare : (place : Place) (body : Body A) → statement_of all place (bare_body {B = NoAllocator} body) ≡ statement_of all place body
  statement-bare place (Instr m Nothing) = refl
  statement-bare place _ = search number-bare

  pub operand_refusal-bare : (place : Place) (body : Body A) → refuse_operand all place (bare_body {B = NoAllocator} body) ≡ refuse_operand all place body
  operand_refusal-bare place (Instr m Nothing) = refl
  operand_refusal-bare place _ = search (known-bare, number-bare, list_all-map)

body-bare : {A : Type 0} (all earlier : Names) (place : Place) (body : Body A) → refuse_body all earlier place (bare_body {B = NoAllocator} body) ≡ refuse_body all earlier place body
body-bare all earlier place (Instr m o) = refl
body-bare all earlier place _ = search (known-bare, number-bare)

instruction-bare : {A : Type 0} (body : Body A) → is_instruction (bare_body {B = NoAllocator} body) ≡ is_instruction body
instruction-bare (Instr m o) = refl
instruction-bare _ = refl

abbrev pub bare_row : {A : Type 0} → Row A → Row NoAllocator
bare_row row = record { line = bare_line row.line; place = row.place; next = row.next; label = row.label }

-- the row of a line at an address, given the names that earlier lines define
abbrev row_at : {A : Type 0} → Names → ℕ → ℕ → Line A → Row A
row_at earlier n here line = record {
  line = line;
  place = next_place earlier n here line.body;
  next = next_of earlier here line.body;
  label = label_of earlier here line.body;
}

row_at-bare : {A : Type 0} (all : Names) (n here : ℕ) (label : Option (List ℕ)) (body : Body A)
    → row_at all n here (record { label = label; body = bare_body body }) ≡ bare_row (row_at all n here (record { label = label; body = body }))
row_at-bare all n here label (Instr m o) = simp mode-bare
row_at-bare all n here label _ = search (number-bare, length-map)

row-bare : {A : Type 0} (before : List (Row A)) (line : Line A) → next_row (map bare_row before) (bare_line line) ≡ bare_row (next_row before line)
row-bare before line =
    (λ i. row_at (flat_map-map (λ row. defined_by row.line.label row.label) bare_row before i) (length-map before bare_row i + 1) (fold-map (λ _ row. row.next) bare_row 768 before i) (bare_line line))
    ∙ row_at-bare (names before) (length before + 1) (end_of before) line.label line.body

next_rows-bare : {A : Type 0} (before : List (Row A)) (lines : List (Line A)) → next_rows (map bare_row before) (bare lines) ≡ map bare_row (next_rows before lines)
next_rows-bare before [] = refl
next_rows-bare before (line ∷ lines) = simp (row-bare, ← next_rows-bare (before ++ next_row before line ∷ []) lines, map-append)

-- the rows of the bare lines
pub rows-bare : {A : Type 0} (lines : List (Line A)) → source_rows (bare lines) ≡ map bare_row (source_rows lines)
rows-bare lines = next_rows-bare [] lines

pub names-bare : {A : Type 0} (rows : List (Row A)) → names (map bare_row rows) ≡ names rows
names-bare rows = flat_map-map _ _ rows

-- a check that finds the same errors with and without allocators
first_error_in_order-map : {X Y : Type 0} (v : X → Y) (f : List Y → Y → Option Fault) (g : List X → X → Option Fault)
    → ((before : List X) (x : X) → f (map v before) (v x) ≡ g before x)
    → (before xs : List X) → first_error_in_order f (map v before) (map v xs) ≡ first_error_in_order g before xs
first_error_in_order-map v f g h before [] = refl
first_error_in_order-map v f g h before (x ∷ xs) = simp (h, ← first_error_in_order-map v f g h (before ++ x ∷ []) xs, map-append)

labels-bare : {A : Type 0} (lines : List (Line A)) → first_error_in_order refuse_names [] (bare lines) ≡ first_error_in_order refuse_names [] lines
labels-bare lines = first_error_in_order-map bare_line refuse_names refuse_names (λ before line. search (fold-map, length-map)) [] lines

module _ {A : Type 0} (all : Names) where
  pub placed-bare : (rows : List (Row A)) → first_error_in_order (refuse_place all) [] (map bare_row rows) ≡ first_error_in_order (refuse_place all) [] rows
  placed-bare rows = first_error_in_order-map bare_row (refuse_place all) (refuse_place all) (λ before row. search (flat_map-map, body-bare)) [] rows

  image-bare : (rows : List (Row A)) → image all (map bare_row rows) ≡ image all rows
  image-bare [] = refl
  image-bare (row ∷ more) = λ i a. (byte_from row.place.address (bytes-bare all row.place row.line.body i) a otherwise image-bare more i a)

  laid-bare : (rows : List (Row A)) → first_error_in_order (refuse_bytes all) [] (map bare_row rows) ≡ first_error_in_order (refuse_bytes all) [] rows
  laid-bare rows = first_error_in_order-map bare_row (refuse_bytes all) (refuse_bytes all) (λ before row. search (operand_refusal-bare, image-bare, bytes-bare)) [] rows

  statements-bare : (rows : List (Row A)) → statements_of all (map bare_row rows) ≡ statements_of all rows
  statements-bare rows = simp (flat_map-map, statement-bare)

entry-bare : {A : Type 0} (rows : List (Row A)) → first_instruction (map bare_row rows) ≡ first_instruction rows
entry-bare [] = refl
entry-bare (row ∷ more) = simp (instruction-bare, entry-bare more)

-- the bare lines have the same errors as the lines
pub refusal-bare : {A : Type 0} (lines : List (Line A)) → layout_error (bare lines) ≡ layout_error lines
refusal-bare lines = simp (labels-bare, rows-bare, names-bare, placed-bare, laid-bare, entry-bare)

-- a program of the lines is a program of the bare lines
pub program-bare : {A : Type 0} (lines : List (Line A)) (p : Assembled) → IsMade lines p → IsMade (bare lines) p
program-bare lines p is = record {
  accepted = refusal-bare lines ∙ is.accepted;
  named = simp (rows-bare, names-bare) is.named;
  laid = λ a. simp (rows-bare, names-bare) (is.laid a ∙ ap (λ cells. cells a) (sym (image-bare _ (source_rows lines))));
  stated = simp (rows-bare, names-bare, statements-bare) is.stated;
  begins = simp (rows-bare, entry-bare) is.begins;
}

-- a result for the lines is a result for their source
pub refused-by : {A : Type 0} (lines : List (Line A)) (source : List BareLine) (fault : Fault) → bare lines ≡ source → layout_error lines ≡ Some fault → IsLayoutError source fault
refused-by lines source fault is h = refused-of source fault (ap layout_error (sym is) ∙ refusal-bare lines ∙ h)

pub made-of_lines : {A : Type 0} (lines : List (Line A)) (source : List BareLine) (p : Assembled) → bare lines ≡ source → IsMade lines p → IsProgram source p
made-of_lines lines source p is made = subst (λ s. IsProgram s p) is (program-of (bare lines) p (program-bare lines p made))
