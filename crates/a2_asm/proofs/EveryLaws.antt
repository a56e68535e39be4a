-- The errors of the lines examined so far.
use Rattle.std.proofs.Common.{◌≡◌, ℕ, ◌+◌, ◌<◌, List, [], ◌∷◌, ◌++◌, length, get_or, take, drop, map, refl, ap, ◌∙◌, Option, arith}
use Rattle.std.specs.List.{cons_option}
use Rattle.std.proofs.lemmas.List.{length-map, map-append}
use Rattle.std.proofs.lemmas.List.Folds.{list_all-map, fold-map}
use Rattle.a2_syntax.specs.Bare.{NoAllocator, BareLine, bare_body, bare_line, bare}
use Rattle.a2_syntax.specs.declared.fault.Fault.{Fault}
use Rattle.a2_syntax.specs.declared.source.Operand.TheVariants.{Nothing}
use Rattle.a2_syntax.specs.declared.source.Body.{Body}
use Rattle.a2_syntax.specs.declared.source.Body.TheVariants.{Instr}
use Rattle.a2_syntax.specs.declared.source.Line.{Line}
use Rattle.a2_asm.specs.Values.{Names}
use Rattle.a2_asm.specs.Layout.{Row}
use Rattle.a2_asm.specs.Pass.{source_rows}
use Rattle.a2_asm.specs.Every.{errors_in_order, with_label, labels, form_error, refuse_by_names, by_names, by_values, error_of_each_line}
use Rattle.a2_asm.proofs.Steps.{read}
use Rattle.a2_asm.proofs.BareLaws.{bare_row, known-bare, number-bare, operand_refusal-bare, placed-bare, rows-bare, names-bare}

-- one more line, and its error
pub each-more : {X : Type 0} (check : List X → X → Option Fault) (xs : List X) (i : ℕ) (x : X) (o : Option Fault) (told all : List Fault) → i < length xs → x ≡ get_or xs i x
    → check (take i xs) x ≡ o → told ++ errors_in_order check (take i xs) (drop i xs) ≡ all → told ++ cons_option o (errors_in_order check (take (i + 1) xs) (drop (i + 1) xs)) ≡ all
each-more check xs i x o told all lt e is h = grind (arith, read)

-- The lines without their allocator

words-bare : {A : Type 0} (all earlier : Names) (n : ℕ) (body : Body A) → form_error all earlier n (bare_body {B = NoAllocator} body) ≡ form_error all earlier n body
words-bare all earlier n (Instr m Nothing) = refl
words-bare all earlier n _ = search (known-bare, number-bare, list_all-map)

labels-bare : {A : Type 0} (lines : List (Line A)) → labels (bare lines) ≡ labels lines
labels-bare lines = fold-map (λ earlier l. with_label earlier l.label) (bare_line {B = NoAllocator}) [] lines

each-map : {X Y : Type 0} (v : X → Y) (f : List Y → Y → Option Fault) (g : List X → X → Option Fault)
    → ((before : List X) (x : X) → f (map v before) (v x) ≡ g before x)
    → (before xs : List X) → errors_in_order f (map v before) (map v xs) ≡ errors_in_order g before xs
each-map v f g h before [] = refl
each-map v f g h before (x ∷ xs) = simp (h, ← each-map v f g h (before ++ x ∷ []) xs, map-append)

by_names-bare : {A : Type 0} (lines : List (Line A)) → by_names (bare lines) ≡ by_names lines
by_names-bare lines =
    ap (λ all. errors_in_order (refuse_by_names all) [] (bare lines)) (labels-bare lines)
    ∙ each-map bare_line (refuse_by_names (labels lines)) (refuse_by_names (labels lines)) (λ before line. search (labels-bare, length-map, words-bare)) [] lines

by_values-bare : {A : Type 0} (all : Names) (rows : List (Row A)) → by_values all (map bare_row rows) ≡ by_values all rows
by_values-bare all [] = refl
by_values-bare all (row ∷ rows) = simp (operand_refusal-bare, by_values-bare all rows)

-- the error of each line, for a source that has these lines
pub each-of : {A : Type 0} (lines : List (Line A)) (source : List BareLine) → bare lines ≡ source → error_of_each_line lines (source_rows lines) ≡ error_of_each_line source (source_rows source)
each-of lines source e = rw (← e) (simp (rows-bare, names-bare, placed-bare, by_names-bare, by_values-bare))
