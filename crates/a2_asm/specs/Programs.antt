-- The program of a source, and what holds of every program. This project's profile.
use Rattle.std.specs.Prelude.{◌≡◌, ℕ, ◌+◌, ◌<◌, ◌≤◌, Bool, ◌&&◌, ◌==◌, nat_lt, nat_le, IsTrue, List, find, Option, Some, None, is_some, Contains}
use Rattle.std.specs.List.{list_any}
use Rattle.std.specs.Option.{option_map_or}
use Rattle.a2_opcode.specs.declared.Instr.{Instr}
use Rattle.a2_opcode.specs.declared.Row.{Row}
use Rattle.a2_opcode.specs.Table.{row, length_of}
use Rattle.a2_opcode.specs.Encoding.{fetched, instruction}
use Rattle.a2_syntax.specs.declared.source.Line.{Line}
use Rattle.a2_hex.specs.Images.{held, ram_end}
use Rattle.a2_asm.specs.declared.program.Statement.{Statement}
use Rattle.a2_asm.specs.Assembled.{Assembled}
use Rattle.a2_asm.specs.Layout.{Row as PlacedLine, IsLayout, names}
use Rattle.a2_asm.specs.Bytes.{image, statements_of, first_instruction}
use Rattle.a2_asm.specs.Refusals.{refusal_in}

-- whether a statement is an instruction that begins at this address
abbrev pub begins_at : ℕ → Statement → Bool
begins_at a s = s.addr == a && is_some s.instr

-- the instruction that begins at an address
abbrev pub instr_at : List Statement → ℕ → Option Instr
instr_at all a = option_map_or (λ s. s.instr) (find (begins_at a) all) None

-- whether a statement is an instruction that has a byte at this address
abbrev pub covers : ℕ → Statement → Bool
covers a s = is_some s.instr && nat_le s.addr a && nat_lt a (s.addr + s.length)

-- whether an address holds a byte of an instruction
abbrev pub is_code : List Statement → ℕ → Bool
is_code all a = list_any (covers a) all

-- the program of a source without errors
pub record IsProgram {A : Type 0} (source : List (Line A)) (p : Assembled) : Type 0 where
  pub layout : List (PlacedLine A)
  pub is_layout : IsLayout source layout
  pub accepted : refusal_in source layout ≡ None
  pub named : p.names ≡ names layout
  pub laid : (a : ℕ) → held p.image a ≡ image (names layout) layout a
  pub stated : p.statements ≡ statements_of (names layout) layout
  pub begins : first_instruction layout ≡ Some p.entry

-- a memory that holds the bytes of code as they were laid
abbrev pub ShowsCode : Assembled → (ℕ → Option ℕ) → Type 0
ShowsCode p byte_at = (a : ℕ) → IsTrue (is_code p.statements a) → byte_at a ≡ held p.image a

-- if memory holds the bytes of code, decoding at the address of each instruction statement gives that instruction, by
-- its row of the table
abbrev pub StatementsDecode : Assembled → Type 0
StatementsDecode p =
    (byte_at : ℕ → Option ℕ) → ShowsCode p byte_at →
    (s : Statement) (i : Instr) → Contains p.statements s → s.instr ≡ Some i →
    (found : Row) × (row i.mnemonic i.mode ≡ Some found) × (fetched byte_at s.addr ≡ instruction found i.value)

-- each instruction statement is the one that begins at its address, which is the first address of its bytes
abbrev pub StatementsBegin : Assembled → Type 0
StatementsBegin p =
    (s : Statement) (i : Instr) → Contains p.statements s → s.instr ≡ Some i →
    (instr_at p.statements s.addr ≡ Some i) × IsTrue (is_code p.statements s.addr) × (s.length ≡ length_of i.mode)

-- a statement has a byte at this address
abbrev pub Holds : Statement → ℕ → Type 0
Holds s a = (s.addr ≤ a) × (a < s.addr + s.length)

-- no two statements share an address
abbrev pub StatementsApart : Assembled → Type 0
StatementsApart p =
    (s t : Statement) (a : ℕ) → Contains p.statements s → Contains p.statements t → Holds s a → Holds t a → s ≡ t

-- each byte of code is in RAM
abbrev pub CodeInRam : Assembled → Type 0
CodeInRam p = (a : ℕ) → IsTrue (is_code p.statements a) → a < ram_end

-- the image has each byte of code
abbrev pub CodeInImage : Assembled → Type 0
CodeInImage p = (a : ℕ) → IsTrue (is_code p.statements a) → (byte : ℕ) × (held p.image a ≡ Some byte)

-- an instruction begins at the entry
abbrev pub EntryBegins : Assembled → Type 0
EntryBegins p = (i : Instr) × (instr_at p.statements p.entry ≡ Some i)

-- the image has no byte past the end of RAM
abbrev pub ImageInRam : Assembled → Type 0
ImageInRam p = (a : ℕ) → ram_end ≤ a → held p.image a ≡ None

-- what holds of the program of any source; running and debugging rely on it
pub record IsSound (p : Assembled) : Type 0 where
  pub decodes : StatementsDecode p
  pub begins : StatementsBegin p
  pub apart : StatementsApart p
  pub in_ram : CodeInRam p
  pub is_held : CodeInImage p
  pub enters : EntryBegins p
  pub outside : ImageInRam p

-- the same names, statements and entry, and at each address the same byte or none
pub record AreAlike (p q : Assembled) : Type 0 where
  pub names_are : p.names ≡ q.names
  pub statements_are : p.statements ≡ q.statements
  pub entry_is : p.entry ≡ q.entry
  pub held_is : (a : ℕ) → held p.image a ≡ held q.image a
