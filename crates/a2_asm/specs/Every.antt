-- All errors of a source that can be known at once: the first one, and those of other lines. If the layout has no
-- error, these are errors in values. Otherwise they are errors in names and forms, which depend on no address and no
-- value. This project's profile.
use Rattle.std.specs.Prelude.{◌≡◌, ◌⊎◌, ℕ, ◌+◌, ◌==◌, not, List, [], ◌∷◌, ◌++◌, length, fold, filter, filter_map, Option, None, is_some, if◌then◌else◌}
use Rattle.std.specs.List.{list_all, cons_option}
use Rattle.std.specs.Option.{option_map_or}
use Rattle.a2_text.specs.FirstError.{◌otherwise◌, error_if}
use Rattle.a2_syntax.specs.Bare.{NoAllocator, BareLine}
use Rattle.a2_syntax.specs.Texts.{fault_line}
use Rattle.a2_syntax.specs.declared.fault.Fault.{Fault}
use Rattle.a2_syntax.specs.declared.fault.Fault.TheVariants as faults
use Rattle.a2_syntax.specs.declared.source.Expr.{Expr}
use Rattle.a2_syntax.specs.declared.source.Body.{Body}
use Rattle.a2_syntax.specs.declared.source.Body.TheVariants.{Instr, Org, Equ, Dfb, Dw, Ds}
use Rattle.a2_syntax.specs.declared.source.Line.{Line}
use Rattle.a2_syntax.specs.Operands.{expr_of}
use Rattle.a2_asm.specs.Assembled.{Assembled}
use Rattle.a2_asm.specs.Values.{Names, is_known}
use Rattle.a2_asm.specs.Modes.{has_mode, mode_of}
use Rattle.a2_asm.specs.Layout.{Row, IsLayout, defined_by, names}
use Rattle.a2_asm.specs.Programs.{IsProgram}
use Rattle.a2_asm.specs.Refusals.{first_error_in_order, is_taken, refuse_place, refuse_operand, IsLayoutError}

-- the errors that a check finds in a list, if the check also sees the elements before each one
abbrev pub errors_in_order : {X : Type 0} → (List X → X → Option Fault) → List X → List X → List Fault
errors_in_order check before [] = []
errors_in_order check before (x ∷ xs) = cons_option (check before x) (errors_in_order check (before ++ x ∷ []) xs)

-- adds a label to the names if it is not among them; its value does not matter
abbrev pub with_label : Names → Option (List ℕ) → Names
with_label earlier label = if is_taken earlier label then earlier else earlier ++ defined_by label 0

-- the labels of lines
abbrev pub labels : {A : Type 0} → List (Line A) → Names
labels lines = fold (λ earlier line. with_label earlier line.label) [] lines

-- a name that no line defines
abbrev pub refuse_name : {A : Type 0} → Names → ℕ → Expr A → Option Fault
refuse_name all number e = error_if (not (is_known all e)) (faults.Unknown number)

-- in ORG, EQU and DS: the same, and a name that no earlier line defines
abbrev pub refuse_early : {A : Type 0} → Names → Names → ℕ → Expr A → Option Fault
refuse_early all earlier number e =
    refuse_name all number e otherwise error_if (not (is_known earlier e)) (faults.Forward number)

-- in DFB and DW: a name that no line defines
abbrev pub refuse_unknown : {A : Type 0} → Names → ℕ → List (Expr A) → Option Fault
refuse_unknown all number es = error_if (not (list_all (is_known all) es)) (faults.Unknown number)

-- the error in the form of a line's body, or in its names; neither depends on an address
abbrev pub form_error : {A : Type 0} → Names → Names → ℕ → Body A → Option Fault
form_error all earlier number (Instr m operand) =
    error_if (not (has_mode m (mode_of earlier 0 m operand))) (faults.NoMode number) otherwise
    option_map_or (refuse_name all number) (expr_of operand) None
form_error all earlier number (Org e) = refuse_early all earlier number e
form_error all earlier number (Equ e) = refuse_early all earlier number e
form_error all earlier number (Ds e) = refuse_early all earlier number e
form_error all earlier number (Dfb es) = refuse_unknown all number es
form_error all earlier number (Dw es) = refuse_unknown all number es
form_error all earlier number body = None

-- the error in a line's label, names or form, given the names that earlier lines define
abbrev pub refuse_names_in : {A : Type 0} → Names → Names → ℕ → Line A → Option Fault
refuse_names_in all earlier number line =
    error_if (is_taken earlier line.label) (faults.Duplicate number) otherwise form_error all earlier number line.body

-- the same for a line after the given lines
abbrev pub refuse_by_names : {A : Type 0} → Names → List (Line A) → Line A → Option Fault
refuse_by_names all before line = refuse_names_in all (labels before) (length before + 1) line

-- for each line that has one, the error in its names or its form
abbrev pub by_names : {A : Type 0} → List (Line A) → List Fault
by_names source = errors_in_order (refuse_by_names (labels source)) [] source

-- for each line at its place that has one, the error in its values
abbrev pub by_values : {A : Type 0} → Names → List (Row A) → List Fault
by_values all rows = filter_map (λ row. refuse_operand all row.place row.line.body) rows

-- the error of each line that has one
abbrev pub error_of_each_line : {A : Type 0} → List (Line A) → List (Row A) → List Fault
error_of_each_line source rows =
    if is_some (first_error_in_order (refuse_place (names rows)) [] rows) then by_names source else by_values (names rows) rows

-- an error, followed by those of other lines
abbrev pub first_and_others : Fault → List Fault → List Fault
first_and_others first told = first ∷ filter (λ fault. not (fault_line fault == fault_line first)) told

-- all errors reported for lines that have one
abbrev pub AreErrorsOfRejected : List BareLine → List Fault → Type 0
AreErrorsOfRejected source told =
    (first : Fault) × (layout : List (Row NoAllocator))
    × IsLayoutError source first × IsLayout source layout × (told ≡ first_and_others first (error_of_each_line source layout))

-- all errors reported for the layout of lines; an empty list if they form a program
abbrev pub AreLayoutErrors : List BareLine → List Fault → Type 0
AreLayoutErrors source told = ((told ≡ []) × (program : Assembled) × IsProgram source program) ⊎ AreErrorsOfRejected source told
