-- A line of a listing: this project's profile, modelled on the Apple II Reference Manual (1979).
use Rattle.std.specs.Prelude.{ℕ, ◌-◌, List, [], ◌++◌, length, take, map, replicate, codes, Option, Some, None}
use Rattle.std.specs.List.{join_with_byte}
use Rattle.a2_text.specs.Digits.{hex_pair, hex_word}
use Rattle.a2_opcode.specs.declared.Mode.{Mode}
use Rattle.a2_opcode.specs.declared.Mode.TheVariants.{Implied, Accumulator, Immediate, ZeroPage, ZeroPageX, ZeroPageY, Absolute, AbsoluteX, AbsoluteY, IndexedIndirect, IndirectIndexed, Indirect, Relative}
use Rattle.a2_opcode.specs.declared.Instr.{Instr}
use Rattle.a2_opcode.specs.Table.{length_of}
use Rattle.a2_opcode.specs.Names.{name_of}
use Rattle.a2_opcode.specs.Encoding.{decoded}

-- an operand with a value, as its mode is written
abbrev pub operand_text : Mode → ℕ → List ℕ
operand_text Implied value = []
operand_text Accumulator value = codes "A"
operand_text Immediate value = codes "#$" ++ hex_pair value
operand_text ZeroPage value = codes "$" ++ hex_pair value
operand_text ZeroPageX value = codes "$" ++ hex_pair value ++ codes ",X"
operand_text ZeroPageY value = codes "$" ++ hex_pair value ++ codes ",Y"
operand_text Absolute value = codes "$" ++ hex_word value
operand_text AbsoluteX value = codes "$" ++ hex_word value ++ codes ",X"
operand_text AbsoluteY value = codes "$" ++ hex_word value ++ codes ",Y"
operand_text IndexedIndirect value = codes "($" ++ hex_pair value ++ codes ",X)"
operand_text IndirectIndexed value = codes "($" ++ hex_pair value ++ codes "),Y"
operand_text Indirect value = codes "($" ++ hex_word value ++ codes ")"
operand_text Relative value = codes "$" ++ hex_word value

-- three blanks and the operand, if there is one
abbrev pub operand_column : Mode → ℕ → List ℕ
operand_column Implied value = []
operand_column mode value = codes "   " ++ operand_text mode value

-- the bytes separated by one blank, padded with blanks to eight characters
abbrev pub bytes_column : List ℕ → List ℕ
bytes_column bytes =
    let text = join_with_byte 32 (map hex_pair bytes) in
    text ++ replicate (8 - length text) 32

-- the columns before the mnemonic
abbrev pub columns_before : ℕ → List ℕ → List ℕ
columns_before at bytes = hex_word at ++ codes "-   " ++ bytes_column bytes ++ codes "   "

-- the line for bytes at an address, given what they decode to
abbrev pub line_text : List ℕ → ℕ → Option Instr → List ℕ
line_text bytes at None = columns_before at (take 1 bytes) ++ codes "???"
line_text bytes at (Some i) =
    columns_before at (take (length_of i.mode) bytes) ++ name_of i.mnemonic ++ operand_column i.mode i.value

abbrev pub line_length : Option Instr → ℕ
line_length None = 1
line_length (Some i) = length_of i.mode

-- the listing of bytes at an address
unfoldable pub listing : List ℕ → ℕ → List ℕ
listing bytes at = line_text bytes at (decoded bytes at)

unfoldable pub listing_length : List ℕ → ℕ → ℕ
listing_length bytes at = line_length (decoded bytes at)
