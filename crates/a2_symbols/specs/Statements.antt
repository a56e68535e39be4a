-- Statements by their line or their address.
use Rattle.std.specs.Prelude.{ℕ, ◌+◌, Bool, ◌&&◌, ◌==◌, nat_le, nat_lt, List, find, Option, is_some}
use Rattle.a2_asm.specs.declared.program.Statement.{Statement}

abbrev pub is_instruction_on : ℕ → Statement → Bool
is_instruction_on number s = (s.line == number) && is_some s.instr

-- the instruction on a line
abbrev pub instruction_on : List Statement → ℕ → Option Statement
instruction_on statements number = find (is_instruction_on number) statements

abbrev pub has_byte_at : ℕ → Statement → Bool
has_byte_at address s = nat_le s.addr address && nat_lt address (s.addr + s.length)

-- the statement with a byte at an address
abbrev pub statement_at : List Statement → ℕ → Option Statement
statement_at statements address = find (has_byte_at address) statements
