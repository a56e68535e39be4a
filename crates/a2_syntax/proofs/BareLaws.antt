-- The grammar gives a line the same meaning whatever its allocator type is.
use Rattle.std.proofs.Common.{refl, sym, ap, subst, inl, inr, ◌≡◌, ℕ, List, [], ◌∷◌, map, Option, None, IsTrue}
use Rattle.a2_opcode.specs.declared.Mnemonic.{Mnemonic}
use Rattle.a2_syntax.specs.Bare.{bare_term, bare_signed, bare_expr, bare_operand, bare_body, bare_line}
use Rattle.a2_syntax.specs.Grammar.{IsTerm, AreMoreTerms, AreTerms, IsExpr, AreExprs, IsOperand, IsOperandOf, IsOperation, IsBody, has_needed_label, IsLine}
use Rattle.a2_syntax.specs.Sources.{AreLines}
use Rattle.a2_syntax.specs.declared.source.Term.{Term}
use Rattle.a2_syntax.specs.declared.source.Term.TheVariants.{Here}
use Rattle.a2_syntax.specs.declared.source.Signed.{Signed}
use Rattle.a2_syntax.specs.declared.source.Expr.{Expr}
use Rattle.a2_syntax.specs.declared.source.Operand.{Operand}
use Rattle.a2_syntax.specs.declared.source.Operand.TheVariants.{Nothing, Accumulator, Immediate, Plain, WithX, WithY, InParenthesesX, ParenthesesY, InParentheses}
use Rattle.a2_syntax.specs.declared.source.Body.{Body}
use Rattle.a2_syntax.specs.declared.source.Body.TheVariants.{Instr, Org, Equ, Dfb, Dw, Asc, Ds}
use Rattle.a2_syntax.specs.declared.source.Line.{Line}
use Rattle.a2_syntax.specs.declared.operation.Operation.{Operation}
use Rattle.a2_syntax.specs.declared.operation.Operation.TheVariants as operations

IsTerm-bare : {A : Type 0} (B : Type 0) (piece : List ℕ) (t : Term A) → IsTerm piece t → IsTerm {A = B} piece (bare_term t)
IsTerm-bare B piece Here h = h
IsTerm-bare B piece _ h = h

AreMoreTerms-bare : {A : Type 0} (B : Type 0) (pieces : List (List ℕ)) (ts : List (Signed A)) → AreMoreTerms pieces ts → AreMoreTerms {A = B} pieces (map bare_signed ts)
AreMoreTerms-bare B pieces [] h = h
AreMoreTerms-bare B pieces (t ∷ ts) (sign, piece, more, e, is, term, rest) =
    (sign, piece, more, e, is, IsTerm-bare B piece t.term term, AreMoreTerms-bare B more ts rest)

AreTerms-bare : {A : Type 0} (B : Type 0) (pieces : List (List ℕ)) (ts : List (Signed A)) → AreTerms pieces ts → AreTerms {A = B} pieces (map bare_signed ts)
AreTerms-bare B pieces [] h = h
AreTerms-bare B pieces (t ∷ ts) (piece, more, e, plus, term, rest) =
    (piece, more, e, plus, IsTerm-bare B piece t.term term, AreMoreTerms-bare B more ts rest)

IsExpr-bare : {A : Type 0} (B : Type 0) (pieces : List (List ℕ)) (e : Expr A) → IsExpr pieces e → IsExpr {A = B} pieces (bare_expr e)
IsExpr-bare B pieces e (rest, part, terms) = (rest, part, AreTerms-bare B rest e.terms terms)

AreExprs-bare : {A : Type 0} (B : Type 0) (pieces : List (List ℕ)) (es : List (Expr A)) → AreExprs pieces es → AreExprs {A = B} pieces (map bare_expr es)
AreExprs-bare B pieces [] h = h
AreExprs-bare B pieces (e ∷ []) h = IsExpr-bare B pieces e h
AreExprs-bare B pieces (e ∷ f ∷ es) (front, back, is, first, others) =
    (front, back, is, IsExpr-bare B front e first, AreExprs-bare B back (f ∷ es) others)

IsOperand-bare : {A : Type 0} (B : Type 0) (pieces : List (List ℕ)) (o : Operand A) → IsOperand pieces o → IsOperand {A = B} pieces (bare_operand o)
IsOperand-bare B pieces Nothing h = h
IsOperand-bare B pieces Accumulator h = h
IsOperand-bare B pieces (Plain e) h = IsExpr-bare B pieces e h
IsOperand-bare B pieces (InParenthesesX e) (inner, es, round, is, h) = (inner, es, round, is, IsExpr-bare B es e h)
IsOperand-bare B pieces (ParenthesesY e) (front, es, is, round, h) = (front, es, is, round, IsExpr-bare B es e h)
IsOperand-bare B pieces (Immediate e) (es, is, h) = (es, is, IsExpr-bare B es e h)
IsOperand-bare B pieces (WithX e) (es, is, h) = (es, is, IsExpr-bare B es e h)
IsOperand-bare B pieces (WithY e) (es, is, h) = (es, is, IsExpr-bare B es e h)
IsOperand-bare B pieces (InParentheses e) (es, round, h) = (es, round, IsExpr-bare B es e h)

IsOperandOf-bare : {A : Type 0} (B : Type 0) (m : Mnemonic) (pieces : List (List ℕ)) (o : Operand A) → IsOperandOf m pieces o → IsOperandOf {A = B} m pieces (bare_operand o)
IsOperandOf-bare B m pieces Nothing h = h
IsOperandOf-bare B m pieces Accumulator h = h
IsOperandOf-bare B m pieces o h = IsOperand-bare B pieces o h

IsOperation-bare : {A : Type 0} (B : Type 0) (o : Operation) (pieces : List (List ℕ)) (body : Body A) → IsOperation o pieces body → IsOperation {A = B} o pieces (bare_body body)
IsOperation-bare B (operations.Instr m) pieces (Instr n o) h = (h.0, IsOperandOf-bare B m pieces o h.1)
IsOperation-bare B operations.Org pieces (Org e) h = IsExpr-bare B pieces e h
IsOperation-bare B operations.Equ pieces (Equ e) h = IsExpr-bare B pieces e h
IsOperation-bare B operations.Dfb pieces (Dfb es) h = AreExprs-bare B pieces es h
IsOperation-bare B operations.Dw pieces (Dw es) h = AreExprs-bare B pieces es h
IsOperation-bare B operations.Asc pieces (Asc bytes) h = h
IsOperation-bare B operations.Ds pieces (Ds e) h = IsExpr-bare B pieces e h
IsOperation-bare B operation pieces body h = absurd h

IsBody-bare : {A : Type 0} (B : Type 0) (text : List ℕ) (body : Body A) → IsBody text body → IsBody {A = B} text (bare_body body)
IsBody-bare B text body (inl (over, e)) = inl (over, ap bare_body e)
IsBody-bare B text body (inr (operation, pieces, has, is)) = inr (operation, pieces, has, IsOperation-bare B operation pieces body is)

has_needed_label-bare : {A : Type 0} (B : Type 0) (label : Option (List ℕ)) (body : Body A) → has_needed_label {A = B} label (bare_body body) ≡ has_needed_label label body
has_needed_label-bare B None (Equ e) = refl
has_needed_label-bare B _ _ = refl

pub IsLine-bare : {A : Type 0} (B : Type 0) (text : List ℕ) (line : Line A) → IsLine text line → IsLine {A = B} text (bare_line line)
IsLine-bare B text line (inl (comment, starred, label, empty)) = inl (comment, starred, label, ap bare_body empty)
IsLine-bare B text line (inr (rest, label, gap, body, stands)) =
    inr (rest, label, gap, IsBody-bare B rest line.body body, subst IsTrue (sym (has_needed_label-bare B line.label line.body)) stands)

pub AreLines-bare : {A : Type 0} (B : Type 0) (texts : List (List ℕ)) (lines : List (Line A)) → AreLines texts lines → AreLines {A = B} texts (map bare_line lines)
AreLines-bare B [] [] h = h
AreLines-bare B (t ∷ ts) (l ∷ ls) h = (IsLine-bare B t l h.0, AreLines-bare B ts ls h.1)
AreLines-bare B _ _ h = absurd h
