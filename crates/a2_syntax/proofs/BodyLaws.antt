-- The pieces of an operation have at most one meaning.
use Rattle.std.proofs.Common.{◌≡◌, ℕ, true, List, [], ◌∷◌, ◌++◌, map, refl, sym, ap, ◌∙◌, inl, inr, Option, Some, None, if◌then◌else◌}
use Rattle.std.proofs.lemmas.Bool.{cases_Bool}
use Rattle.std.proofs.lemmas.List.{same_from_push}
use Rattle.a2_opcode.specs.declared.Mnemonic.{Mnemonic}
use Rattle.a2_syntax.specs.Numbers.{code_in}
use Rattle.a2_syntax.specs.Relations.{Finds}
use Rattle.a2_syntax.specs.Grammar.{IsExpr, AreExprs, IsOperand, is_shift, IsOperandOf, IsText, IsOperation}
use Rattle.a2_syntax.specs.declared.source.Operand.{Operand}
use Rattle.a2_syntax.specs.declared.source.Operand.TheVariants.{Nothing, Accumulator}
use Rattle.a2_syntax.specs.declared.source.Body.{Body}
use Rattle.a2_syntax.specs.declared.source.Body.TheVariants.{Instr, Org, Equ, Dfb, Dw, Asc, Ds}
use Rattle.a2_syntax.specs.declared.operation.Operation.{Operation}
use Rattle.a2_syntax.specs.declared.operation.Operation.TheVariants as operations
use Rattle.a2_syntax.proofs.ExprLaws.{IsExpr-one, AreExprs-one}
use Rattle.a2_syntax.proofs.OperandLaws.{IsOperand-one}

-- Texts in quotes

-- the text between a first and a last byte is unique
pub quotes-one : (q last r : ℕ) (text more : List ℕ) → q ∷ text ++ last ∷ [] ≡ r ∷ more ++ r ∷ [] → (q ≡ r) × (text ≡ more)
quotes-one q last r text more e = (cc, (same_from_push text more last r (cc)).0)

IsText-one : (ps : List (List ℕ)) (a b : List ℕ) → IsText ps a → IsText ps b → a ≡ b
IsText-one ps a b (q, text, piece, e, (_, _, is), _, codes) (r, more, other, f, (_, _, js), _, others) =
    let same : piece ≡ other = cc in
    let (quotes, texts) = quotes-one q q r text more (sym is ∙ same ∙ js) in
    codes ∙ (λ i. map (code_in (quotes i)) (texts i)) ∙ sym others

-- Operands of instructions

-- the pieces determine the operand, except for a shift that has none
pub operand_of-to : {A : Type 0} (m : Mnemonic) (ps : List (List ℕ)) → (is_shift m ≡ true → ps ≡ [] → ⊥) → (o : Operand A) → IsOperand ps o → IsOperandOf m ps o
operand_of-to m ps never Nothing e = elim (cases_Bool (is_shift m)) [ inl s ↦ absurd (never s e) | inr s ↦ (s, e) ]
operand_of-to m ps never Accumulator h = inl h
operand_of-to m ps never other h = h

pub operand_of-from : {A : Type 0} (m : Mnemonic) (ps : List (List ℕ)) → (is_shift m ≡ true → ps ≡ [] → ⊥) → (o : Operand A) → IsOperandOf m ps o → IsOperand ps o
operand_of-from m ps never Nothing h = h.1
operand_of-from m ps never Accumulator (inl h) = h
operand_of-from m ps never Accumulator (inr (s, e)) = absurd (never s e)
operand_of-from m ps never other h = h

pub operand_of-found : {A : Type 0} (m : Mnemonic) (ps : List (List ℕ)) → (is_shift m ≡ true → ps ≡ [] → ⊥) → (o : Option (Operand A)) → Finds (IsOperand ps) o → Finds (IsOperandOf m ps) o
operand_of-found m ps never (Some o) h = operand_of-to m ps never o h
operand_of-found m ps never None none = λ o h. none o (operand_of-from m ps never o h)

operand_of-nothing : {A : Type 0} (m : Mnemonic) (o : Operand A) → IsOperandOf m [] o → o ≡ (if is_shift m then Accumulator else Nothing)
operand_of-nothing m Nothing h = rw h.0 refl
operand_of-nothing {A} m Accumulator (inl h) = let never = IsOperand-one {A = A} [] Accumulator Nothing h refl in cc
operand_of-nothing m Accumulator (inr h) = rw h.0 refl
operand_of-nothing m o h = let never = IsOperand-one [] o Nothing h refl in cc

IsOperandOf-one : {A : Type 0} (m : Mnemonic) (ps : List (List ℕ)) (a b : Operand A) → IsOperandOf m ps a → IsOperandOf m ps b → a ≡ b
IsOperandOf-one m [] a b h k = operand_of-nothing m a h ∙ sym (operand_of-nothing m b k)
IsOperandOf-one m (p ∷ ps) a b h k = IsOperand-one (p ∷ ps) a b (operand_of-from m (p ∷ ps) (λ _ e. cc) a h) (operand_of-from m (p ∷ ps) (λ _ e. cc) b k)

-- Operations

-- a body built from a value that satisfies a relation
abbrev pub Made : {X Y : Type 0} → (X → Type 0) → (X → Y) → Y → Type 0
Made {X} R make y = (x : X) × R x × (y ≡ make x)

abbrev pub Does : {A : Type 0} → Operation → List (List ℕ) → Body A → Type 0
Does (operations.Instr m) ps = Made (IsOperandOf m ps) (Instr m)
Does operations.Org ps = Made (IsExpr ps) Org
Does operations.Equ ps = Made (IsExpr ps) Equ
Does operations.Dfb ps = Made (AreExprs ps) Dfb
Does operations.Dw ps = Made (AreExprs ps) Dw
Does operations.Asc ps = Made (IsText ps) Asc
Does operations.Ds ps = Made (IsExpr ps) Ds

pub does : {A : Type 0} (o : Operation) (ps : List (List ℕ)) (body : Body A) → IsOperation o ps body → Does o ps body
does (operations.Instr m) ps (Instr n operand) (e, h) = (operand, h, ap (λ k. Instr k operand) e)
does operations.Org ps (Org e) h = (e, h, refl)
does operations.Equ ps (Equ e) h = (e, h, refl)
does operations.Dfb ps (Dfb es) h = (es, h, refl)
does operations.Dw ps (Dw es) h = (es, h, refl)
does operations.Asc ps (Asc bytes) h = (bytes, h, refl)
does operations.Ds ps (Ds e) h = (e, h, refl)
does o ps body h = absurd h

made-one : {X Y : Type 0} {R : X → Type 0} (make : X → Y) → ((x y : X) → R x → R y → x ≡ y) → (a b : Y) → Made R make a → Made R make b → a ≡ b
made-one make one a b (x, h, e) (y, k, f) = e ∙ ap make (one x y h k) ∙ sym f

pub IsOperation-one : {A : Type 0} (o : Operation) (ps : List (List ℕ)) (a b : Body A) → IsOperation o ps a → IsOperation o ps b → a ≡ b
IsOperation-one o ps a b h k = by o (does o ps a h) (does o ps b k)
  where
    by : (o : Operation) → Does o ps a → Does o ps b → a ≡ b
    by (operations.Instr m) = made-one (Instr m) (IsOperandOf-one m ps) a b
    by operations.Org = made-one Org (IsExpr-one ps) a b
    by operations.Equ = made-one Equ (IsExpr-one ps) a b
    by operations.Dfb = made-one Dfb (AreExprs-one ps) a b
    by operations.Dw = made-one Dw (AreExprs-one ps) a b
    by operations.Asc = made-one Asc (IsText-one ps) a b
    by operations.Ds = made-one Ds (IsExpr-one ps) a b
