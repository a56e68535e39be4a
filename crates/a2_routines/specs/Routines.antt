-- The routines that a run has entered and not left, in terms of the worlds that it passes through. This project's
-- profile.
use Rattle.std.specs.Prelude.{ℕ, zero, suc, ◌==◌, nat_lt, Bool, false, List, [], ◌∷◌, ◌++◌, filter, if◌then◌else◌, Option, Some, None}
use Rattle.a2_bus.specs.Memory.{peek}
use Rattle.a2_services.specs.World.{World}
use Rattle.a2_routines.specs.declared.routines.Entry.{Entry}

-- whether the byte is JSR's opcode: MCS6500 Programming Manual, appendix B
abbrev pub is_jsr : Option ℕ → Bool
is_jsr None = false
is_jsr (Some byte) = byte == 0x20

-- whether the next step in a world is a JSR
abbrev pub is_call : World → Bool
is_call world = is_jsr (peek world.memory world.registers.pc)

-- what the JSR at a position enters
abbrev pub entry_at : ℕ → World → Entry
entry_at position world = record { position = position; call = world.registers.pc; s = world.registers.s }

-- where a routine begins: at the address that its JSR went to
abbrev pub begin_of : (ℕ → World) → Entry → ℕ
begin_of worlds entry = (worlds (suc entry.position)).registers.pc

-- whether a world is still within a routine. A routine is left by the first step after which the stack pointer is not
-- below its value before the JSR.
abbrev pub is_within : World → Entry → Bool
is_within world entry = nat_lt world.registers.s entry.s

-- the entries with the routine that the next step enters, if it is a JSR
abbrev pub with_call : ℕ → World → List Entry → List Entry
with_call position world entries = if is_call world then entries ++ entry_at position world ∷ [] else entries

-- the routines entered and not left after this many steps of a run with these worlds, the outermost first
unfoldable pub entered : (ℕ → World) → ℕ → List Entry
entered worlds zero = []
entered worlds (suc n) = filter (is_within (worlds (suc n))) (with_call n (worlds n) (entered worlds n))
