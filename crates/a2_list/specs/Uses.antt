-- Where the names of a source are defined, and where they are used. This project's profile.
use Rattle.std.specs.Prelude.{ℕ, ◌+◌, Bool, false, List, [], ◌∷◌, Option, Some, None, if◌then◌else◌}
use Rattle.std.specs.List.{list_any, position}
use Rattle.std.specs.Option.{option_map_or}
use Rattle.std.specs.Str.{bytes_eq}
use Rattle.a2_syntax.specs.declared.source.Term.{Term}
use Rattle.a2_syntax.specs.declared.source.Term.TheVariants.{Named}
use Rattle.a2_syntax.specs.declared.source.Expr.{Expr}
use Rattle.a2_syntax.specs.declared.source.Operand.{Operand}
use Rattle.a2_syntax.specs.declared.source.Body.{Body}
use Rattle.a2_syntax.specs.declared.source.Body.TheVariants.{Instr, Org, Equ, Dfb, Dw, Ds}
use Rattle.a2_syntax.specs.declared.source.Line.{Line}
use Rattle.a2_syntax.specs.Operands.{expr_of}

-- a term is this name
abbrev pub is_named : {A : Type 0} → List ℕ → Term A → Bool
is_named name (Named other) = bytes_eq other name
is_named name term = false

-- a name is in an expression
abbrev pub is_in : {A : Type 0} → List ℕ → Expr A → Bool
is_in name e = list_any (λ t. is_named name t.term) e.terms

-- a name is in an operand
abbrev pub is_in_operand : {A : Type 0} → List ℕ → Operand A → Bool
is_in_operand name operand = option_map_or (is_in name) (expr_of operand) false

-- a name is in what follows an operation
abbrev pub is_used_by : {A : Type 0} → List ℕ → Body A → Bool
is_used_by name (Instr m operand) = is_in_operand name operand
is_used_by name (Org e) = is_in name e
is_used_by name (Equ e) = is_in name e
is_used_by name (Dfb es) = list_any (is_in name) es
is_used_by name (Dw es) = list_any (is_in name) es
is_used_by name (Ds e) = is_in name e
is_used_by name body = false

-- a line uses a name
abbrev pub is_used_in : {A : Type 0} → List ℕ → Line A → Bool
is_used_in name line = is_used_by name line.body

-- the numbers of the lines that use a name; the first of the lines has the number n
abbrev pub uses : {A : Type 0} → List ℕ → ℕ → List (Line A) → List ℕ
uses name n [] = []
uses name n (line ∷ lines) = if is_used_in name line then n ∷ uses name (n + 1) lines else uses name (n + 1) lines

-- a name is this label
abbrev pub is_label : List ℕ → Option (List ℕ) → Bool
is_label name None = false
is_label name (Some label) = bytes_eq label name

-- the number of the first line with this label; lines count from 1, and 0 is none
abbrev pub definition : {A : Type 0} → List ℕ → List (Line A) → ℕ
definition name lines = option_map_or (λ index. index + 1) (position (λ line. is_label name line.label) lines) 0
