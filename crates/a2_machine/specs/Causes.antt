-- The table of causes: the name of each, and whether a program that stops with it ended by itself. This project's profile.
use Rattle.std.specs.Prelude.{ℕ, List, Bool, true, false, codes}
use Rattle.a2_machine.specs.declared.causes.Cause.{Cause}
use Rattle.a2_machine.specs.declared.causes.Cause.TheVariants.{Returned, CodeWrite, Window, Keys, OffStatement, Rom, Opcode, Brk, Decimal, Limit}

-- the name in the cause line, and whether the program ended by itself
pub record CauseRow : Type 0 where
  pub name : List ℕ
  pub is_normal_end : Bool

abbrev pub row_of : List ℕ → Bool → CauseRow
row_of name is_normal_end = record { name = name; is_normal_end = is_normal_end }

abbrev pub cause_row : Cause → CauseRow
cause_row Returned = row_of (codes "RETURNED") true
cause_row CodeWrite = row_of (codes "CODE WRITE") false
cause_row Window = row_of (codes "WINDOW") false
cause_row Keys = row_of (codes "KEYS") false
cause_row OffStatement = row_of (codes "OFF STATEMENT") false
cause_row Rom = row_of (codes "ROM") false
cause_row Opcode = row_of (codes "OPCODE") false
cause_row Brk = row_of (codes "BRK") true
cause_row Decimal = row_of (codes "DECIMAL") false
cause_row Limit = row_of (codes "LIMIT") false

abbrev pub cause_name : Cause → List ℕ
cause_name cause = (cause_row cause).name

abbrev pub is_normal_end : Cause → Bool
is_normal_end cause = (cause_row cause).is_normal_end
