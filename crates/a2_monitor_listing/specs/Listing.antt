-- The bytes of a listing, as the Monitor lists instructions: Apple II Reference Manual (1979), chapter 3.
use Rattle.std.specs.Prelude.{ℕ, ◌+◌, ◌==◌, List, [], ◌∷◌, ◌++◌, length, take, drop, Option, Result, if◌then◌else◌}
use Rattle.std.specs.List.{position, flat_map}
use Rattle.std.specs.Option.{option_map_or}
use Rattle.a2_text.specs.Lines.{lines}
use Rattle.a2_text.specs.Signs.{sign}
use Rattle.a2_text.specs.Words.{words}
use Rattle.a2_hex.specs.ObjectLines.{image_of}
use Rattle.a2_hex.specs.declared.fault.HexFault.{HexFault}

-- the words before an operation, which has three characters, with a blank before each
abbrev pub up_to_operation : List (List ℕ) → List ℕ
up_to_operation [] = []
up_to_operation (word ∷ others) = if length word == 3 then [] else 32 ∷ (word ++ up_to_operation others)

-- the object line for a line: a `-` separates its address from its bytes; a line without `-` is already an object line
abbrev pub object_line : List ℕ → List ℕ
object_line line =
    option_map_or (λ at. take at line ++ (sign ":" ∷ up_to_operation (words (drop (at + 1) line))))
    (position (λ c. c == sign "-") line) line

abbrev pub object_row : List ℕ → List ℕ
object_row line = object_line line ++ (10 ∷ [])

-- the object lines of a listing
abbrev pub object_lines : List ℕ → List ℕ
object_lines text = flat_map object_row (lines text)

-- the byte at each address of a listing, or its first line that has none
abbrev pub listed : List ℕ → Result (ℕ → Option ℕ) HexFault
listed text = image_of (object_lines text)
