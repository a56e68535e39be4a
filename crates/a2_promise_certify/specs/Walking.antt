-- What is known while a routine is in progress, and one step of it, for the contracts of the crate's private
-- functions.
use Rattle.std.specs.Prelude.{◌≡◌, ◌≢◌, ◌<◌, ℕ, ◌+◌, ◌-◌, ◌||◌, if◌then◌else◌, Bool, true, false, IsTrue, nat_lt, List, ◌∷◌, length, Some, None, slice_get}
use Rattle.std.specs.List.{list_any}
use Rattle.a2_text.specs.Bytes.{is_among}
use Rattle.a2_opcode.specs.declared.Mode.{Mode}
use Rattle.a2_opcode.specs.declared.Mode.TheVariants.{Implied, Accumulator, Immediate, ZeroPage, ZeroPageX, ZeroPageY}
use Rattle.a2_opcode.specs.declared.Mnemonic.TheVariants.{Rts}
use Rattle.a2_opcode.specs.Table.{length_of}
use Rattle.a2_opcode.specs.Encoding.{fetched, instruction}
use Rattle.a2_opcode.specs.declared.Instr.{Instr}
use Rattle.a2_opcode.specs.declared.Row.{Row}
use Rattle.a2_bus.specs.BusState.{BusState}
use Rattle.a2_bus.specs.Memory.{ram_end}
use Rattle.a2_effect.specs.Registers.{Registers}
use Rattle.a2_effect.specs.View.{registers_of}
use Rattle.a2_services.specs.World.{world_of}
use Rattle.a2_machine.specs.Meaning.{next, world_at}
use Rattle.a2_promise.specs.declared.promises.Changes.{Changes}
use Rattle.a2_footprint.specs.declared.Part.{Part}
use Rattle.a2_footprint.specs.declared.Part.TheVariants.{A as part_a, X as part_x, Y as part_y, N as part_n, V as part_v, D as part_d, I as part_i, Z as part_z, C as part_c}
use Rattle.a2_footprint.specs.Calls.{ReachesRts}
use Rattle.a2_footprint.specs.Fetches.{addresses_from}
use Rattle.a2_footprint.specs.Parts.{with_parts}
use Rattle.a2_footprint.specs.Reads.{Knows, with_bytes}
use Rattle.a2_footprint.specs.Runs.{RunReads, StepReads, bytes_known_after, step_stores}
use Rattle.a2_footprint.specs.RotatedStack.{RunIsOffStack, StepIsOffStack, in_stack}
use Rattle.a2_footprint.specs.Uses.{RunNeeds, step_needs, step_sets, parts_known_after}
use Rattle.a2_promise_certify.specs.declared.known_parts.KnownParts.{KnownParts}
use Rattle.a2_promise_certify.specs.declared.walk.Walk.{Walk}
use Rattle.a2_promise_certify.specs.Kept.{code, is_own, may_store}

-- the mark of an address in a list of marks; false after its end
abbrev pub is_set : List Bool → ℕ → Bool
is_set marks a = elim (slice_get marks a) [ Some set ↦ set | None ↦ false ]

-- whether a byte is known: at the entry, or because it was stored since
abbrev pub known_now : List Bool → List Bool → ℕ → Bool
known_now known stored a = is_set stored a || is_set known a

abbrev pub no_parts : KnownParts
no_parts = record { a = false; x = false; y = false; n = false; v = false; d = true; i = false; z = false; c = false }

abbrev pub knows_part : KnownParts → Part → Bool
knows_part parts part_a = parts.a
knows_part parts part_x = parts.x
knows_part parts part_y = parts.y
knows_part parts part_n = parts.n
knows_part parts part_v = parts.v
knows_part parts part_d = parts.d
knows_part parts part_i = parts.i
knows_part parts part_z = parts.z
knows_part parts part_c = parts.c

abbrev pub with_part : Part → KnownParts → KnownParts
with_part part_a parts = record parts { a = true }
with_part part_x parts = record parts { x = true }
with_part part_y parts = record parts { y = true }
with_part part_n parts = record parts { n = true }
with_part part_v parts = record parts { v = true }
with_part part_d parts = record parts { d = true }
with_part part_i parts = record parts { i = true }
with_part part_z parts = record parts { z = true }
with_part part_c parts = record parts { c = true }

-- the instruction is at an address
pub record IsInstructionAt (instr : Instr) (at : ℕ) (bytes : List ℕ) : Type 0 where
  pub low : at < ram_end
  pub size : length bytes ≡ ram_end
  pub row : Row
  pub is_row : Rattle.a2_opcode.specs.Table.row instr.mnemonic instr.mode ≡ Some row
  pub fetch : fetched (slice_get bytes) at ≡ instruction row instr.value

-- whether a byte may be stored at: it is the routine's own, or `changes` names it and it is not in the stack's page
abbrev pub is_allowed : Changes → ℕ → Bool
is_allowed changes a = if in_stack a then is_own 0xFD a else may_store changes a

-- a byte may be stored at, and is not part of the caller's return address
abbrev pub MayStore : Changes → ℕ → Type 0
MayStore changes a = (is_allowed changes a ≡ true) × (a ≢ 0x1FE) × (a ≢ 0x1FF)

-- whether the mode is enough to tell that an operand is not in memory or is in page 0
abbrev pub is_beside_stack_page : Mode → ℕ → Bool
is_beside_stack_page Implied value = true
is_beside_stack_page Accumulator value = true
is_beside_stack_page Immediate value = true
is_beside_stack_page ZeroPage value = nat_lt value 256
is_beside_stack_page ZeroPageX value = true
is_beside_stack_page ZeroPageY value = true
is_beside_stack_page _ value = false

-- addresses are marked, all of which may be stored at
pub record AreMarked (old new : List Bool) (changes : Changes) (addresses : List ℕ) : Type 0 where
  pub marks : (a : ℕ) → is_set new a ≡ with_bytes addresses (is_set old) a
  pub allowed : (a : ℕ) → IsTrue (is_among addresses a) → MayStore changes a

-- the instruction is the routine's own RTS, and its bytes are known
pub record IsOwnRts (known marks : List Bool) (instr : Instr) (registers : Registers) : Type 0 where
  pub mnemonic : instr.mnemonic ≡ Rts
  pub mode : instr.mode ≡ Implied
  pub s : registers.s ≡ 0xFD
  pub fetch : Knows (known_now known marks) (registers.pc ∷ addresses_from (registers.pc + 1) (length_of instr.mode - 1))
  pub off_stack : list_any in_stack (addresses_from registers.pc 3) ≡ false

-- A step from registers and a board, which depends on nothing unknown and uses the stack only through S. The new
-- marks and parts are what is known after it.
pub record IsStep (known old_marks new_marks : List Bool) (old_parts new_parts : KnownParts) (changes : Changes)
    (registers : Registers) (bus : BusState) (new_registers : Registers) (new_bus : BusState) (cycles : ℕ) : Type 0 where
  pub off_stack : (before : ℕ) → StepIsOffStack (world_of registers bus before)
  pub reads : (before : ℕ) → StepReads code (known_now known old_marks) (world_of registers bus before)
  pub needs : (before : ℕ) → Knows (knows_part old_parts) (step_needs code (world_of registers bus before))
  pub world : (before : ℕ) → world_of new_registers new_bus (before + cycles) ≡ next code (world_of registers bus before)
  pub stores : (before : ℕ) → AreMarked old_marks new_marks changes (step_stores code (world_of registers bus before))
  pub parts : (before : ℕ) (part : Part)
      → knows_part new_parts part ≡ with_parts (step_sets code (world_of registers bus before)) (knows_part old_parts) part

-- A walk executes the step, whose cycles are not counted yet.
pub record IsStepOf (known old_marks new_marks : List Bool) (changes : Changes) (old new : Walk) (cycles : ℕ) : Type 0 where
  pub step : IsStep known old_marks new_marks old.parts new.parts changes (registers_of old.regs) old.space (registers_of new.regs) new.space cycles
  pub uncounted : new.cycles ≡ old.cycles

-- This many steps are executed, in this many cycles.
pub record IsWalk (known marks : List Bool) (first_parts last_parts : KnownParts) (changes : Changes)
    (first : Registers) (first_bus : BusState) (registers : Registers) (bus : BusState) (cycles steps : ℕ) : Type 0 where
  pub world : world_of registers bus cycles ≡ world_at code (world_of first first_bus 0) steps
  pub reads : RunReads code (is_set known) (world_of first first_bus 0) steps
  pub needs : RunNeeds code (knows_part first_parts) (world_of first first_bus 0) steps
  pub off_stack : RunIsOffStack (world_of first first_bus 0) steps
  pub stored : (a : ℕ) → is_set marks a ≡ bytes_known_after code (λ b. false) (world_of first first_bus 0) steps a
  pub parts : (part : Part) → knows_part last_parts part ≡ parts_known_after code (knows_part first_parts) (world_of first first_bus 0) steps part
  pub allowed : (a : ℕ) → IsTrue (is_set marks a) → MayStore changes a

-- The steps lead to the routine's own RTS.
pub record ReachesOwnRts (known marks : List Bool) (first_parts last_parts : KnownParts) (changes : Changes)
    (first : Registers) (first_bus : BusState) (registers : Registers) (bus : BusState) (cycles steps : ℕ) : Type 0 where
  pub walk : IsWalk known marks first_parts last_parts changes first first_bus registers bus cycles steps
  pub comes : ReachesRts code (knows_part first_parts) (is_set known) (world_of first first_bus 0) steps
  pub implied : comes.rts.row.mode ≡ Implied
  pub s : first.s ≡ 0xFD
  pub home_off_stack : list_any in_stack (addresses_from (world_at code (world_of first first_bus 0) steps).registers.pc 3) ≡ false
