-- The texts of error messages. This project's profile.
use Rattle.std.specs.Prelude.{ℕ, List, codes}
use Rattle.a2_text.specs.FirstError.{with_line_number}
use Rattle.a2_syntax.specs.declared.fault.Fault.{Fault}
use Rattle.a2_syntax.specs.declared.fault.Fault.TheVariants.{TooLarge, Syntax, TooManyNames, Duplicate, Unknown, Forward, NoMode, Range, Branch, Outside, Overlap, NoCode, Memory}

-- the line of an error, or 0 if it belongs to no line, and the message after the line
abbrev pub fault_parts : Fault → ℕ × List ℕ
fault_parts (TooLarge n) = (n, codes "E1 TOO LARGE")
fault_parts (Syntax n) = (n, codes "E2 SYNTAX")
fault_parts (TooManyNames n) = (n, codes "E3 TOO MANY NAMES")
fault_parts (Duplicate n) = (n, codes "E4 DUPLICATE NAME")
fault_parts (Unknown n) = (n, codes "E5 UNKNOWN NAME")
fault_parts (Forward n) = (n, codes "E6 NAME DEFINED LATER")
fault_parts (NoMode n) = (n, codes "E7 NO SUCH MODE")
fault_parts (Range n) = (n, codes "E8 VALUE OUT OF RANGE")
fault_parts (Branch n) = (n, codes "E9 BRANCH TOO FAR")
fault_parts (Outside n) = (n, codes "E10 OUTSIDE RAM")
fault_parts (Overlap n) = (n, codes "E11 OVERLAP")
fault_parts NoCode = (0, codes "E12 NO INSTRUCTION")
fault_parts Memory = (0, codes "NO MEMORY")

abbrev pub fault_line : Fault → ℕ
fault_line fault = (fault_parts fault).0

abbrev pub fault_text : Fault → List ℕ
fault_text fault = with_line_number (fault_line fault) (fault_parts fault).1
