-- Source lines without their allocator. A line's type names the allocator that holds its parts, but the meaning of a
-- text does not depend on any allocator. Definitions of meaning therefore use these types. This project's own.
use Rattle.std.specs.Prelude.{List, map}
use Rattle.a2_syntax.specs.declared.source.Term.{Term}
use Rattle.a2_syntax.specs.declared.source.Term.TheVariants.{Number, Named, Here}
use Rattle.a2_syntax.specs.declared.source.Signed.{Signed}
use Rattle.a2_syntax.specs.declared.source.Expr.{Expr}
use Rattle.a2_syntax.specs.declared.source.Operand.{Operand}
use Rattle.a2_syntax.specs.declared.source.Operand.TheVariants.{Nothing, Accumulator, Immediate, Plain, WithX, WithY, InParenthesesX, ParenthesesY, InParentheses}
use Rattle.a2_syntax.specs.declared.source.Body.{Body}
use Rattle.a2_syntax.specs.declared.source.Body.TheVariants.{Empty, Instr, Org, Equ, Dfb, Dw, Asc, Ds}
use Rattle.a2_syntax.specs.declared.source.Line.{Line}

-- the type used in place of an allocator
abbrev pub NoAllocator : Type 0
NoAllocator = Unit {0}

-- a line without an allocator
abbrev pub BareLine : Type 0
BareLine = Line NoAllocator

-- the same term with another allocator type
abbrev pub bare_term : {A B : Type 0} → Term A → Term B
bare_term (Number n) = Number n
bare_term (Named name) = Named name
bare_term Here = Here

abbrev pub bare_signed : {A B : Type 0} → Signed A → Signed B
bare_signed t = record { minus = t.minus; term = bare_term t.term }

abbrev pub bare_expr : {A B : Type 0} → Expr A → Expr B
bare_expr e = record { part = e.part; terms = map bare_signed e.terms }

abbrev pub bare_operand : {A B : Type 0} → Operand A → Operand B
bare_operand Nothing = Nothing
bare_operand Accumulator = Accumulator
bare_operand (Immediate e) = Immediate (bare_expr e)
bare_operand (Plain e) = Plain (bare_expr e)
bare_operand (WithX e) = WithX (bare_expr e)
bare_operand (WithY e) = WithY (bare_expr e)
bare_operand (InParenthesesX e) = InParenthesesX (bare_expr e)
bare_operand (ParenthesesY e) = ParenthesesY (bare_expr e)
bare_operand (InParentheses e) = InParentheses (bare_expr e)

abbrev pub bare_body : {A B : Type 0} → Body A → Body B
bare_body Empty = Empty
bare_body (Instr m operand) = Instr m (bare_operand operand)
bare_body (Org e) = Org (bare_expr e)
bare_body (Equ e) = Equ (bare_expr e)
bare_body (Dfb es) = Dfb (map bare_expr es)
bare_body (Dw es) = Dw (map bare_expr es)
bare_body (Asc bytes) = Asc bytes
bare_body (Ds e) = Ds (bare_expr e)

-- the same line with another allocator type
abbrev pub bare_line : {A B : Type 0} → Line A → Line B
bare_line line = record { label = line.label; body = bare_body line.body }

-- the lines without their allocator
abbrev pub bare : {A : Type 0} → List (Line A) → List BareLine
bare lines = map bare_line lines
