-- Lines that are equal without their allocators are equal.
use Rattle.std.proofs.Common.{◌≡◌, List, [], ◌∷◌, map, refl, sym, ap, ◌∙◌}
use Rattle.a2_syntax.specs.Bare.{NoAllocator, bare_term, bare_signed, bare_expr, bare_operand, bare_body, bare_line, bare}
use Rattle.a2_syntax.specs.declared.source.Term.{Term}
use Rattle.a2_syntax.specs.declared.source.Term.TheVariants.{Number, Named, Here}
use Rattle.a2_syntax.specs.declared.source.Signed.{Signed}
use Rattle.a2_syntax.specs.declared.source.Expr.{Expr}
use Rattle.a2_syntax.specs.declared.source.Operand.{Operand}
use Rattle.a2_syntax.specs.declared.source.Operand.TheVariants.{Nothing, Accumulator, Immediate, Plain, WithX, WithY, InParenthesesX, ParenthesesY, InParentheses}
use Rattle.a2_syntax.specs.declared.source.Body.{Body}
use Rattle.a2_syntax.specs.declared.source.Body.TheVariants.{Empty, Instr, Org, Equ, Dfb, Dw, Asc, Ds}
use Rattle.a2_syntax.specs.declared.source.Line.{Line}

term-back : {A : Type 0} (t : Term A) → bare_term {A = NoAllocator} {B = A} (bare_term t) ≡ t
term-back (Number n) = refl
term-back (Named name) = refl
term-back Here = refl

terms-back : {A : Type 0} (ts : List (Signed A)) → map (bare_signed {A = NoAllocator} {B = A}) (map bare_signed ts) ≡ ts
terms-back [] = refl
terms-back (t ∷ ts) = rw (term-back t.term, terms-back ts) refl

expr-back : {A : Type 0} (e : Expr A) → bare_expr {A = NoAllocator} {B = A} (bare_expr e) ≡ e
expr-back e = rw (terms-back e.terms) refl

exprs-back : {A : Type 0} (es : List (Expr A)) → map (bare_expr {A = NoAllocator} {B = A}) (map bare_expr es) ≡ es
exprs-back [] = refl
exprs-back (e ∷ es) = rw (expr-back e, exprs-back es) refl

operand-back : {A : Type 0} (o : Operand A) → bare_operand {A = NoAllocator} {B = A} (bare_operand o) ≡ o
operand-back Nothing = refl
operand-back Accumulator = refl
operand-back (Immediate e) = ap Immediate (expr-back e)
operand-back (Plain e) = ap Plain (expr-back e)
operand-back (WithX e) = ap WithX (expr-back e)
operand-back (WithY e) = ap WithY (expr-back e)
operand-back (InParenthesesX e) = ap InParenthesesX (expr-back e)
operand-back (ParenthesesY e) = ap ParenthesesY (expr-back e)
operand-back (InParentheses e) = ap InParentheses (expr-back e)

body-back : {A : Type 0} (b : Body A) → bare_body {A = NoAllocator} {B = A} (bare_body b) ≡ b
body-back Empty = refl
body-back (Instr m o) = ap (Instr m) (operand-back o)
body-back (Org e) = ap Org (expr-back e)
body-back (Equ e) = ap Equ (expr-back e)
body-back (Dfb es) = ap Dfb (exprs-back es)
body-back (Dw es) = ap Dw (exprs-back es)
body-back (Asc bytes) = refl
body-back (Ds e) = ap Ds (expr-back e)

lines-back : {A : Type 0} (ls : List (Line A)) → map (bare_line {A = NoAllocator} {B = A}) (bare ls) ≡ ls
lines-back [] = refl
lines-back (l ∷ ls) = rw (body-back l.body, lines-back ls) refl

pub same-lines : {A : Type 0} (ls ms : List (Line A)) → bare ls ≡ bare ms → ls ≡ ms
same-lines {A} ls ms e = sym (lines-back ls) ∙ ap (map (bare_line {A = NoAllocator} {B = A})) e ∙ lines-back ms
