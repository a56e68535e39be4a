-- Instructions in a listing, read as source text. This project's profile.
use Rattle.std.specs.Prelude.{◌≡◌, ℕ, ◌<◌, false, IsTrue, List, [], ◌∷◌, drop, Some, None}
use Rattle.std.specs.List.{All}
use Rattle.a2_opcode.specs.declared.Mode.{Mode}
use Rattle.a2_opcode.specs.declared.Mode.TheVariants.{Implied, Accumulator, Immediate, ZeroPage, ZeroPageX, ZeroPageY, Absolute, AbsoluteX, AbsoluteY, IndexedIndirect, IndirectIndexed, Indirect, Relative}
use Rattle.a2_opcode.specs.declared.Instr as opcode
use Rattle.a2_opcode.specs.Encoding.{is_operand_value, decoded}
use Rattle.a2_opcode.specs.Listing.{operand_text, listing}
use Rattle.a2_syntax.specs.Pieces.{Spells}
use Rattle.a2_syntax.specs.Grammar.{IsOperand, IsLine}
use Rattle.a2_syntax.specs.Bare.{NoAllocator, BareLine}
use Rattle.a2_syntax.specs.declared.source.Term.TheVariants.{Number}
use Rattle.a2_syntax.specs.declared.source.Part.TheVariants.{Whole}
use Rattle.a2_syntax.specs.declared.source.Expr.{Expr}
use Rattle.a2_syntax.specs.declared.source.Operand.{Operand}
use Rattle.a2_syntax.specs.declared.source.Operand.TheVariants as form
use Rattle.a2_syntax.specs.declared.source.Body.TheVariants.{Instr}

-- the expression that consists of one number
abbrev pub one_number : {A : Type 0} → ℕ → Expr A
one_number n = record { part = Whole; terms = record { minus = false; term = Number n } ∷ [] }

-- the operand that a listing shows for a mode and a value
abbrev pub listed_operand : Mode → ℕ → Operand NoAllocator
listed_operand Implied value = form.Nothing
listed_operand Accumulator value = form.Accumulator
listed_operand Immediate value = form.Immediate (one_number value)
listed_operand ZeroPage value = form.Plain (one_number value)
listed_operand ZeroPageX value = form.WithX (one_number value)
listed_operand ZeroPageY value = form.WithY (one_number value)
listed_operand Absolute value = form.Plain (one_number value)
listed_operand AbsoluteX value = form.WithX (one_number value)
listed_operand AbsoluteY value = form.WithY (one_number value)
listed_operand IndexedIndirect value = form.InParenthesesX (one_number value)
listed_operand IndirectIndexed value = form.ParenthesesY (one_number value)
listed_operand Indirect value = form.InParentheses (one_number value)
listed_operand Relative value = form.Plain (one_number value)

-- a text whose pieces form this operand
abbrev pub SpellsOperand : List ℕ → Operand NoAllocator → Type 0
SpellsOperand text operand = (pieces : List (List ℕ)) × Spells text pieces × IsOperand pieces operand

-- the operand text of a listing is that operand, for each value that the mode can have
abbrev pub ListedOperandsAreSourceText : Type 0
ListedOperandsAreSourceText =
    (mode : Mode) (at value : ℕ) → value < 65536 → IsTrue (is_operand_value mode at value)
    → SpellsOperand (operand_text mode value) (listed_operand mode value)

-- the line of an instruction without a label
abbrev pub listed_line : opcode.Instr → BareLine
listed_line i = record { label = None; body = Instr i.mnemonic (listed_operand i.mode i.value) }

-- a listing line that shows an instruction, from column 19 on: a space, the mnemonic and the operand
abbrev pub ListingLinesAreSourceText : Type 0
ListingLinesAreSourceText =
    (bytes : List ℕ) (at : ℕ) (i : opcode.Instr) → All (λ byte. byte < 256) bytes → at < 65536 → decoded bytes at ≡ Some i
    → IsLine (drop 18 (listing bytes at)) (listed_line i)
