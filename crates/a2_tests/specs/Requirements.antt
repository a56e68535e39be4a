-- What a line of a case requires of the end of a run. This project's profile.
use Rattle.std.specs.Prelude.{◌≡◌, ℕ, ◌+◌, ◌%◌, ◌==◌, ◌<◌, ◌≤◌, Bool, true, false, ◌&&◌, List, [], ◌∷◌, drop, length, find, Option, Some, None, is_some, is_none, if◌then◌else◌}
use Rattle.std.specs.List.{list_all}
use Rattle.std.specs.Str.{bytes_eq}
use Rattle.a2_text.specs.Bytes.{capital, number_in}
use Rattle.a2_text.specs.Lines.{lines}
use Rattle.a2_text.specs.Words.{words}
use Rattle.a2_opcode.specs.declared.Mnemonic.{Mnemonic}
use Rattle.a2_opcode.specs.Names.{name_of}
use Rattle.a2_bus.specs.Memory.{Memory, peek}
use Rattle.a2_effect.specs.Registers.{Registers, byte_of_flags}
use Rattle.a2_asm.specs.declared.program.Statement.{Statement}
use Rattle.a2_asm.specs.Assembled.{Assembled}
use Rattle.a2_asm.specs.Values.{name_value}
use Rattle.a2_machine.specs.declared.causes.Cause.{Cause}
use Rattle.a2_machine.specs.Meaning.{End}
use Rattle.a2_machine.specs.State.{MachineState, world_of_state}
use Rattle.a2_run.specs.Meaning.{picture_of, attributes_of}
use Rattle.a2_tests.specs.Settings.{byte_of, name_in, digits_in, tight}
use Rattle.a2_tests.specs.Rows.{are_all, rows_fit, row_has_styled, row_is, holds}
use Rattle.a2_tests.specs.declared.line.NumberedLine.{NumberedLine}
use Rattle.a2_tests.specs.declared.line.Line.{Line}
use Rattle.a2_tests.specs.declared.rows.RowKind.TheVariants as kind
use Rattle.a2_tests.specs.declared.line.Line.TheVariants.{Screen, Attributes, Shows, Holds, Styled, Plain, Mem, Reg, Stop, Cycles, Bytes, Uses, Avoids}

-- the address of a place: a number after $, or a name of the program
abbrev pub place_of : Assembled → List ℕ → Option ℕ
place_of program [] = name_value program.names []
place_of program (c ∷ rest) = if c == 0x24 then number_in 16 4 rest else name_value program.names (c ∷ rest)

-- whether a byte is the expected one
abbrev pub is_byte : Option ℕ → Option ℕ → Bool
is_byte (Some byte) (Some wanted) = byte == wanted
is_byte _ _ = false

-- whether memory has these bytes from an address on
abbrev pub has_bytes : Memory → ℕ → List (List ℕ) → Bool
has_bytes memory address [] = true
has_bytes memory address (word ∷ more) = is_byte (peek memory address) (byte_of word) && has_bytes memory ((address + 1) % 65536) more

abbrev pub has_bytes_at : Memory → Option ℕ → List ℕ → Bool
has_bytes_at memory None bytes = false
has_bytes_at memory (Some address) bytes = has_bytes memory address (words bytes)

-- the value of a register named by one letter, in either case
abbrev pub register_byte : Registers → List ℕ → Option ℕ
register_byte r (c ∷ []) =
    let name = capital c in
    if name == 0x41 then Some r.a else if name == 0x58 then Some r.x else if name == 0x59 then Some r.y
    else if name == 0x50 then Some (byte_of_flags r.flags) else if name == 0x53 then Some r.s else None
register_byte r _ = None

-- whether the register in a word such as A=E9 has the value given there
abbrev pub register_matches : Registers → List ℕ → Bool
register_matches r word = is_byte (register_byte r (name_in word)) (byte_of (digits_in word))

-- how many bytes some statements have
abbrev pub size_of : List Statement → ℕ
size_of [] = 0
size_of (s ∷ more) = s.length + size_of more

-- whether a statement is an instruction with this mnemonic
abbrev pub is_use : Mnemonic → Statement → Bool
is_use m s = elim s.instr [ None ↦ false | Some instr ↦ bytes_eq (name_of instr.mnemonic) (name_of m) ]

abbrev pub first_use_of : List Statement → Mnemonic → Option Statement
first_use_of statements m = find (is_use m) statements

-- the rows of the screen
abbrev pub rows_of : Memory → List (List ℕ)
rows_of memory = lines (picture_of memory)

-- the rows of attributes of the screen, as `a2 run --attr` prints them
abbrev pub marks_of : Memory → List (List ℕ)
marks_of memory = lines (attributes_of true memory)

-- the end of a machine's run with a cause
abbrev pub end_at : MachineState → Cause → End
end_at state cause = record { world = world_of_state state; steps = state.steps; cause = cause }

-- the end of a run meets a line; these lines follow it, and the source has this program
abbrev pub Meets : Line → List NumberedLine → Assembled → End → Type 0
Meets Screen rest program end = rows_fit kind.Characters rest (rows_of end.world.memory) ≡ true
Meets Attributes rest program end = rows_fit kind.Attributes rest (marks_of end.world.memory) ≡ true
Meets (Shows number text) rest program end = row_is number text.now (rows_of end.world.memory) ≡ true
Meets (Holds text) rest program end = holds text.now (rows_of end.world.memory) ≡ true
Meets (Styled number attribute text) rest program end =
    row_has_styled number attribute text.now (rows_of end.world.memory) (marks_of end.world.memory) ≡ true
Meets (Plain attribute) rest program end = list_all (are_all attribute) (marks_of end.world.memory) ≡ true
Meets (Mem place bytes) rest program end = has_bytes_at end.world.memory (place_of program place.now) bytes.now ≡ true
Meets (Reg text) rest program end = list_all (register_matches end.world.registers) (words (tight text.now)) ≡ true
Meets (Stop cause) rest program end = end.cause ≡ cause
Meets (Cycles most) rest program end = end.world.cycles ≤ most
Meets (Bytes most) rest program end = size_of program.statements ≤ most
Meets (Uses mnemonic) rest program end = is_some (first_use_of program.statements mnemonic) ≡ true
Meets (Avoids mnemonic) rest program end = is_none (first_use_of program.statements mnemonic) ≡ true
Meets _ rest program end = Unit {0}

-- the end of a run meets the first of these lines
abbrev pub MeetsFirst : List NumberedLine → Assembled → End → Type 0
MeetsFirst [] program end = Unit {0}
MeetsFirst (asked ∷ rest) program end = Meets asked.line rest program end

-- the end of a run meets each of these lines
abbrev pub MeetsAll : List NumberedLine → Assembled → End → Type 0
MeetsAll lines program end = (k : ℕ) → k < length lines → MeetsFirst (drop k lines) program end

-- this is the first of these lines that is not met
pub record IsFirstMissed (lines : List NumberedLine) (program : Assembled) (end : End) (n : ℕ) : Type 0 where
  pub within : n < length lines
  pub missed : ¬ (MeetsFirst (drop n lines) program end)
  pub before : (k : ℕ) → k < n → MeetsFirst (drop k lines) program end
