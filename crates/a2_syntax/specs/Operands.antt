-- The parts of an operand. This project's profile, the source language.
use Rattle.std.specs.Prelude.{Option, Some, None}
use Rattle.a2_syntax.specs.declared.source.Expr.{Expr}
use Rattle.a2_syntax.specs.declared.source.Operand.{Operand}
use Rattle.a2_syntax.specs.declared.source.Operand.TheVariants as forms

-- the expression of an operand, if it has one
abbrev pub expr_of : {A : Type 0} → Operand A → Option (Expr A)
expr_of forms.Nothing = None
expr_of forms.Accumulator = None
expr_of (forms.Immediate e) = Some e
expr_of (forms.Plain e) = Some e
expr_of (forms.WithX e) = Some e
expr_of (forms.WithY e) = Some e
expr_of (forms.InParenthesesX e) = Some e
expr_of (forms.ParenthesesY e) = Some e
expr_of (forms.InParentheses e) = Some e
