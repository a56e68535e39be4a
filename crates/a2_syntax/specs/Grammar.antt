-- The grammar of a source line. This project's profile.
use Rattle.std.specs.Prelude.{◌≡◌, ℕ, ◌<◌, Bool, true, false, IsTrue, List, [], ◌∷◌, ◌++◌, length, map, Option, Some, None, ◌⊎◌, codes}
use Rattle.a2_text.specs.Bytes.{capital}
use Rattle.a2_opcode.specs.declared.Mnemonic.{Mnemonic}
use Rattle.a2_opcode.specs.declared.Mnemonic.TheVariants.{Asl, Lsr, Rol, Ror}
use Rattle.a2_syntax.specs.Names.{is_name}
use Rattle.a2_syntax.specs.Numbers.{code_in, number}
use Rattle.a2_syntax.specs.Pieces.{IsQuoted, IsAfterSpaces, is_gap, Spells}
use Rattle.a2_syntax.specs.Words.{letters_of}
use Rattle.a2_syntax.specs.declared.source.Term.{Term}
use Rattle.a2_syntax.specs.declared.source.Term.TheVariants.{Number, Named, Here}
use Rattle.a2_syntax.specs.declared.source.Signed.{Signed}
use Rattle.a2_syntax.specs.declared.source.Part.{Part}
use Rattle.a2_syntax.specs.declared.source.Part.TheVariants.{Whole, Low, High}
use Rattle.a2_syntax.specs.declared.source.Expr.{Expr}
use Rattle.a2_syntax.specs.declared.source.Operand.{Operand}
use Rattle.a2_syntax.specs.declared.source.Operand.TheVariants.{Nothing, Accumulator, Immediate, Plain, WithX, WithY, InParenthesesX, ParenthesesY, InParentheses}
use Rattle.a2_syntax.specs.declared.source.Body.{Body}
use Rattle.a2_syntax.specs.declared.source.Body.TheVariants.{Empty, Instr, Org, Equ, Dfb, Dw, Asc, Ds}
use Rattle.a2_syntax.specs.declared.source.Line.{Line}
use Rattle.a2_syntax.specs.declared.operation.Operation.{Operation}
use Rattle.a2_syntax.specs.declared.operation.Operation.TheVariants as operations

-- a number or a character, a name, or `*`
abbrev pub IsTerm : {A : Type 0} → List ℕ → Term A → Type 0
IsTerm piece (Number n) = number piece ≡ Some n
IsTerm piece (Named name) = (piece ≡ name) × IsTrue (is_name piece)
IsTerm piece Here = piece ≡ codes "*"

-- the sign before a term
abbrev pub IsSign : List ℕ → Bool → Type 0
IsSign piece false = piece ≡ codes "+"
IsSign piece true = piece ≡ codes "-"

-- further terms, each preceded by its sign
abbrev pub AreMoreTerms : {A : Type 0} → List (List ℕ) → List (Signed A) → Type 0
AreMoreTerms pieces [] = pieces ≡ []
AreMoreTerms pieces (t ∷ ts) =
    (sign piece : List ℕ) × (more : List (List ℕ)) × (pieces ≡ sign ∷ piece ∷ more) × IsSign sign t.minus × IsTerm piece t.term × AreMoreTerms more ts

-- a term without a sign, followed by any further terms
abbrev pub AreTerms : {A : Type 0} → List (List ℕ) → List (Signed A) → Type 0
AreTerms pieces [] = ⊥
AreTerms pieces (t ∷ ts) = (piece : List ℕ) × (more : List (List ℕ)) × (pieces ≡ piece ∷ more) × (t.minus ≡ false) × IsTerm piece t.term × AreMoreTerms more ts

-- an optional `<` or `>`
abbrev pub IsPart : Part → List (List ℕ) → List (List ℕ) → Type 0
IsPart Whole pieces rest = pieces ≡ rest
IsPart Low pieces rest = pieces ≡ codes "<" ∷ rest
IsPart High pieces rest = pieces ≡ codes ">" ∷ rest

-- an optional `<` or `>`, then a sum of terms
abbrev pub IsExpr : {A : Type 0} → List (List ℕ) → Expr A → Type 0
IsExpr pieces e = (rest : List (List ℕ)) × IsPart e.part pieces rest × AreTerms rest e.terms

-- one or more expressions, separated by commas
abbrev pub AreExprs : {A : Type 0} → List (List ℕ) → List (Expr A) → Type 0
AreExprs pieces [] = ⊥
AreExprs pieces (e ∷ []) = IsExpr pieces e
AreExprs pieces (e ∷ f ∷ es) = (front back : List (List ℕ)) × (pieces ≡ front ++ codes "," ∷ back) × IsExpr front e × AreExprs back (f ∷ es)

-- the letter of a register, in upper or lower case
abbrev pub IsLetter : List ℕ → List ℕ → Type 0
IsLetter letter piece = map capital piece ≡ letter

-- these pieces followed by a comma and a register letter
abbrev pub IsIndexed : List ℕ → List (List ℕ) → List (List ℕ) → Type 0
IsIndexed letter pieces es = (x : List ℕ) × (pieces ≡ es ++ codes "," ∷ x ∷ []) × IsLetter letter x

-- these pieces in parentheses
abbrev pub IsEnclosed : List (List ℕ) → List (List ℕ) → Type 0
IsEnclosed pieces es = pieces ≡ codes "(" ∷ es ++ codes ")" ∷ []

-- the nine forms of an operand
abbrev pub IsOperand : {A : Type 0} → List (List ℕ) → Operand A → Type 0
IsOperand pieces Nothing = pieces ≡ []
IsOperand pieces Accumulator = (a : List ℕ) × (pieces ≡ a ∷ []) × IsLetter (codes "A") a
IsOperand pieces (Immediate e) = (es : List (List ℕ)) × (pieces ≡ codes "#" ∷ es) × IsExpr es e
IsOperand pieces (Plain e) = IsExpr pieces e
IsOperand pieces (WithX e) = (es : List (List ℕ)) × IsIndexed (codes "X") pieces es × IsExpr es e
IsOperand pieces (WithY e) = (es : List (List ℕ)) × IsIndexed (codes "Y") pieces es × IsExpr es e
IsOperand pieces (InParenthesesX e) = (inner es : List (List ℕ)) × IsEnclosed pieces inner × IsIndexed (codes "X") inner es × IsExpr es e
IsOperand pieces (ParenthesesY e) = (front es : List (List ℕ)) × IsIndexed (codes "Y") pieces front × IsEnclosed front es × IsExpr es e
IsOperand pieces (InParentheses e) = (es : List (List ℕ)) × IsEnclosed pieces es × IsExpr es e

-- the instructions that shift a byte
abbrev pub is_shift : Mnemonic → Bool
is_shift Asl = true
is_shift Lsr = true
is_shift Rol = true
is_shift Ror = true
is_shift m = false

-- the operand of an instruction; a shift without an operand uses the accumulator
abbrev pub IsOperandOf : {A : Type 0} → Mnemonic → List (List ℕ) → Operand A → Type 0
IsOperandOf m pieces Nothing = (is_shift m ≡ false) × (pieces ≡ [])
IsOperandOf {A} m pieces Accumulator = IsOperand {A = A} pieces Accumulator ⊎ ((is_shift m ≡ true) × (pieces ≡ []))
IsOperandOf m pieces operand = IsOperand pieces operand

-- one or more characters in quotes, and the bytes they stand for
abbrev pub IsText : List (List ℕ) → List ℕ → Type 0
IsText pieces bytes =
    (quote : ℕ) × (text piece : List ℕ) × (pieces ≡ piece ∷ []) × IsQuoted quote text piece × (0 < length text) × (bytes ≡ map (code_in quote) text)

-- an operation followed by these pieces
abbrev pub IsOperation : {A : Type 0} → Operation → List (List ℕ) → Body A → Type 0
IsOperation (operations.Instr m) pieces (Instr mnemonic operand) = (mnemonic ≡ m) × IsOperandOf m pieces operand
IsOperation operations.Org pieces (Org e) = IsExpr pieces e
IsOperation operations.Equ pieces (Equ e) = IsExpr pieces e
IsOperation operations.Dfb pieces (Dfb es) = AreExprs pieces es
IsOperation operations.Dw pieces (Dw es) = AreExprs pieces es
IsOperation operations.Asc pieces (Asc bytes) = IsText pieces bytes
IsOperation operations.Ds pieces (Ds e) = IsExpr pieces e
IsOperation operation pieces body = ⊥

-- spaces, the name of an operation in upper or lower case, and the pieces after it
abbrev pub HasOperation : List ℕ → Operation → List (List ℕ) → Type 0
HasOperation text operation pieces =
    (rest word after : List ℕ) × IsAfterSpaces text rest × (rest ≡ word ++ after) × (map capital word ≡ letters_of operation) × IsTrue (is_gap after) × Spells after pieces

-- what follows the label: nothing, or an operation
abbrev pub IsBody : {A : Type 0} → List ℕ → Body A → Type 0
IsBody text body =
    (Spells text [] × (body ≡ Empty)) ⊎ ((operation : Operation) × (pieces : List (List ℕ)) × HasOperation text operation pieces × IsOperation operation pieces body)

-- an optional label in the first column, and what follows it
abbrev pub IsLabelled : List ℕ → Option (List ℕ) → List ℕ → Type 0
IsLabelled text None rest = text ≡ rest
IsLabelled text (Some name) rest = (text ≡ name ++ rest) × IsTrue (is_name name)

-- EQU must have a label
abbrev pub has_needed_label : {A : Type 0} → Option (List ℕ) → Body A → Bool
has_needed_label None (Equ e) = false
has_needed_label label body = true

-- an optional label, then nothing, or a space and an operation
abbrev pub IsStatement : {A : Type 0} → List ℕ → Line A → Type 0
IsStatement text line = (rest : List ℕ) × IsLabelled text line.label rest × IsTrue (is_gap rest) × IsBody rest line.body × IsTrue (has_needed_label line.label line.body)

-- a line that begins with `*` is a comment
abbrev pub IsStarred : {A : Type 0} → List ℕ → Line A → Type 0
IsStarred text line = (comment : List ℕ) × (text ≡ codes "*" ++ comment) × (line.label ≡ None) × (line.body ≡ Empty)

-- a line of the source language
abbrev pub IsLine : {A : Type 0} → List ℕ → Line A → Type 0
IsLine text line = IsStarred text line ⊎ IsStatement text line
