-- Functions that read the start of a text, and kinds of operations. No public clause cites this file.
use Rattle.std.specs.Prelude.{ℕ, ◌+◌, Bool, ◌==◌, List, [], ◌∷◌, drop, false, if◌then◌else◌}
use Rattle.std.specs.List.{prefix_len, list_any}
use Rattle.a2_text.specs.Signs.{sign}
use Rattle.a2_syntax.specs.Names.{is_name_byte}
use Rattle.a2_syntax.specs.Numbers.{is_quote, is_quotable}
use Rattle.a2_syntax.specs.Pieces.{is_sign, is_mark, Spells}
use Rattle.a2_syntax.specs.Grammar.{AreExprs}
use Rattle.a2_syntax.specs.declared.operation.Operation.{Operation}
use Rattle.a2_syntax.specs.declared.operation.Operation.TheVariants.{Instr}
use Rattle.a2_syntax.specs.declared.source.Part.{Part}
use Rattle.a2_syntax.specs.declared.source.Part.TheVariants.{Whole, Low, High}
use Rattle.a2_syntax.specs.declared.source.Expr.{Expr}

abbrev pub run_len : List ℕ → ℕ
run_len text = prefix_len is_name_byte text

-- how much a closing quote adds to the length before it, or 0 if there is no closing quote
abbrev pub closed_len : ℕ → ℕ → List ℕ → ℕ
closed_len quote n [] = 0
closed_len quote n (c ∷ cs) = if c == quote then n + 2 else 0

-- the length of a quoted text, given what follows the opening quote; 0 if there is no quoted text
abbrev pub quoted_len : ℕ → List ℕ → ℕ
quoted_len quote text = closed_len quote (prefix_len (is_quotable quote) text) (drop (prefix_len (is_quotable quote) text) text)

-- the length of a mark and its run, given what follows the mark; 0 if there is no run
abbrev pub marked_len : List ℕ → ℕ
marked_len text = if run_len text == 0 then 0 else 1 + run_len text

-- the length of the first piece, or 0 if the text does not start with a piece
abbrev pub piece_len : List ℕ → ℕ
piece_len [] = 0
piece_len (c ∷ cs) =
    if is_sign c then 1 else
    if is_mark c then marked_len cs else
    if is_quote c then quoted_len c cs else
    run_len (c ∷ cs)

-- a piece that is just this byte
abbrev pub is_byte : ℕ → List ℕ → Bool
is_byte c (x ∷ []) = x == c
is_byte c piece = false

-- which part of its sum an expression selects, and the pieces of its terms
abbrev pub part_of : List (List ℕ) → Part × List (List ℕ)
part_of [] = (Whole, [])
part_of (piece ∷ pieces) =
    if is_byte (sign "<") piece then (Low, pieces) else
    if is_byte (sign ">") piece then (High, pieces) else
    (Whole, piece ∷ pieces)

abbrev pub has_comma : List (List ℕ) → Bool
has_comma pieces = list_any (is_byte (sign ",")) pieces

-- an instruction, not a directive
abbrev pub IsInstr : Operation → Type 0
IsInstr (Instr m) = Unit {0}
IsInstr directive = ⊥

-- the pieces of a text are these expressions, separated by commas
abbrev pub SpellsExprs : {A : Type 0} → List ℕ → List (Expr A) → Type 0
SpellsExprs text es = (pieces : List (List ℕ)) × Spells text pieces × AreExprs pieces es

-- whether a line begins with `*`
abbrev pub is_starred : List ℕ → Bool
is_starred [] = false
is_starred (c ∷ cs) = c == sign "*"
