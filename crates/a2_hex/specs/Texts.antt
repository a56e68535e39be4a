-- The messages of errors. This project's profile.
use Rattle.std.specs.Prelude.{ℕ, List, codes}
use Rattle.a2_text.specs.FirstError.{with_line_number}
use Rattle.a2_hex.specs.declared.fault.HexFault.{HexFault}
use Rattle.a2_hex.specs.declared.fault.HexFault.TheVariants.{Digit, NoAddress, Outside, Memory}

-- the line of an error, if it has one, and the message
abbrev pub hex_fault_text : HexFault → List ℕ
hex_fault_text (Digit line) = with_line_number line (codes "H1 NOT HEX")
hex_fault_text (NoAddress line) = with_line_number line (codes "H2 NO ADDRESS")
hex_fault_text (Outside line) = with_line_number line (codes "H3 OUTSIDE RAM")
hex_fault_text Memory = codes "NO MEMORY"
