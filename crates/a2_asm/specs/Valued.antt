-- Accepted lines have values: no default for a missing value is ever used. This project's profile.
use Rattle.std.specs.Prelude.{◌≡◌, ℕ, true, List, ◌∷◌, ◌++◌, Some, None, IfSome, is_some}
use Rattle.std.specs.List.{list_all}
use Rattle.a2_opcode.specs.Encoding.{encoded}
use Rattle.a2_syntax.specs.declared.source.Expr.{Expr}
use Rattle.a2_syntax.specs.declared.source.Body.{Body}
use Rattle.a2_syntax.specs.declared.source.Body.TheVariants.{Instr, Org, Equ, Dfb, Dw, Ds}
use Rattle.a2_syntax.specs.Bare.{NoAllocator, BareLine}
use Rattle.a2_syntax.specs.Operands.{expr_of}
use Rattle.a2_asm.specs.declared.place.Place.{Place}
use Rattle.a2_asm.specs.Values.{Names, is_known, value_within}
use Rattle.a2_asm.specs.Modes.{greatest}
use Rattle.a2_asm.specs.Layout.{Row, IsLayout, names}
use Rattle.a2_asm.specs.Bytes.{instr_of}
use Rattle.a2_asm.specs.Refusals.{refusal_in}

-- every name of an expression is known, and its value is from 0 to the given maximum
abbrev pub HasValue : {A : Type 0} → Names → ℕ → ℕ → Expr A → Type 0
HasValue known most here e = (is_known known e ≡ true) × (is_some (value_within known most here e) ≡ true)

-- the same for each expression of a list
abbrev pub HaveValues : {A : Type 0} → Names → ℕ → ℕ → List (Expr A) → Type 0
HaveValues known most here es = (list_all (is_known known) es ≡ true) × (list_all (λ e. is_some (value_within known most here e)) es ≡ true)

-- a line has all its values: in ORG, EQU and DS by the names of earlier lines, otherwise by all names; an instruction
-- has bytes
abbrev pub HasItsValues : {A : Type 0} → Names → Names → Place → Body A → Type 0
HasItsValues all earlier place (Instr m operand) =
    IfSome (expr_of operand) (HasValue all (greatest place.mode) place.address)
    × (bytes : List ℕ) × (encoded (instr_of all place m operand) place.address ≡ Some bytes)
HasItsValues all earlier place (Org e) = HasValue earlier 65535 place.address e
HasItsValues all earlier place (Equ e) = HasValue earlier 65535 place.address e
HasItsValues all earlier place (Ds e) = HasValue earlier 65535 place.address e
HasItsValues all earlier place (Dfb es) = HaveValues all 255 place.address es
HasItsValues all earlier place (Dw es) = HaveValues all 65535 place.address es
HasItsValues all earlier place body = Unit {0}

-- if the layout of some lines has no error, each line has its values
abbrev pub AcceptedHaveTheirValues : Type 0
AcceptedHaveTheirValues =
    (source : List BareLine) (layout before after : List (Row NoAllocator)) (row : Row NoAllocator)
    → IsLayout source layout → refusal_in source layout ≡ None → layout ≡ before ++ row ∷ after
    → HasItsValues (names layout) (names before) row.place row.line.body
