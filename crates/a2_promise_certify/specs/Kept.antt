-- A promise is kept, in a state that is tried and in every world. This project's own.
use Rattle.std.specs.Prelude.{◌≡◌, ◌⊎◌, ◌<◌, ◌≤◌, ℕ, suc, ◌-◌, Bool, true, false, not, ◌&&◌, ◌+◌, ◌%◌, IsTrue, nat_le, nat_lt, List, [], ◌∷◌, map, None}
use Rattle.std.specs.List.{list_any, range_with_len}
use Rattle.a2_opcode.specs.declared.Mode.TheVariants.{Implied}
use Rattle.a2_bus.specs.Memory.{Memory, ram_byte, ram_end}
use Rattle.a2_cpu.specs.Stores.{IsNotIn}
use Rattle.a2_services.specs.World.{World}
use Rattle.a2_machine.specs.Meaning.{Code, world_at}
use Rattle.a2_machine.specs.ByteRun.{bytes}
use Rattle.a2_promise.specs.declared.expr.Atom.{Atom}
use Rattle.a2_promise.specs.declared.expr.Atom.TheVariants as atom
use Rattle.a2_promise.specs.declared.promises.Changes.{Changes}
use Rattle.a2_promise.specs.declared.promises.Clause.{Clause}
use Rattle.a2_promise.specs.declared.promises.Promise.{Promise}
use Rattle.a2_promise.specs.ReadsOfValues.{Known, Knows}
use Rattle.a2_promise.specs.Values.{Moment}
use Rattle.a2_footprint.specs.declared.Part.{Part}
use Rattle.a2_footprint.specs.declared.Part.TheVariants.{A as part_a, X as part_x, Y as part_y, N as part_n, V as part_v, D as part_d, I as part_i, Z as part_z, C as part_c}
use Rattle.a2_footprint.specs.Calls.{ReachesRts, GoesBack}
use Rattle.a2_footprint.specs.Fetches.{addresses_from}
use Rattle.a2_footprint.specs.Parts.{held}
use Rattle.a2_footprint.specs.Runs.{bytes_known_after, stores_in}
use Rattle.a2_footprint.specs.RotatedStack.{RunIsOffStack, in_stack}
use Rattle.a2_footprint.specs.Uses.{parts_known_after}
use Rattle.a2_promise_certify.specs.Judging.{all_hold, no_names}

-- the code is whatever is in memory
abbrev pub code : Code
code = bytes None

-- the bytes of RAM from address 0 on
unfoldable pub bytes_of : Memory → List ℕ
bytes_of memory = map (ram_byte memory) (range_with_len 0 ram_end)

-- what a promise refers to: a world, this many steps after the start
abbrev pub moment : World → World → ℕ → Moment
moment start world steps = record {
  registers = world.registers;
  bytes = bytes_of world.memory;
  cycles = world.cycles - start.cycles;
  steps = steps;
}

-- a world at the entry meets the promise's requirements
abbrev pub IsRequired : Promise → World → Type 0
IsRequired promise start = IsTrue (all_hold promise.wanted.items (moment start start 0) (moment start start 0))

-- what is promised holds this many steps after the entry
abbrev pub IsEnsured : Promise → World → ℕ → Type 0
IsEnsured promise start steps =
    IsTrue (all_hold promise.promised.items (moment start start 0) (moment start (world_at code start steps) steps))

-- Whether an atom's value is known. Cycles and steps are always known. S and the bytes of the stack's page never are,
-- since a routine may be entered with any S.
abbrev pub knows_atom : (Part → Bool) → Atom → Bool
knows_atom known atom.A = known part_a
knows_atom known atom.X = known part_x
knows_atom known atom.Y = known part_y
knows_atom known atom.Carry = known part_c
knows_atom known atom.Zero = known part_z
knows_atom known atom.Negative = known part_n
knows_atom known atom.Overflow = known part_v
knows_atom known atom.Decimal = known part_d
knows_atom known atom.Interrupt = known part_i
knows_atom known atom.S = false
knows_atom known _ = true

abbrev pub known_by : (ℕ → Bool) → (Part → Bool) → Known
known_by bytes parts = record { bytes = λ a. not (in_stack a) && bytes a; atoms = knows_atom parts }

abbrev pub AreClausesKnown : List Clause → Known → Known → Moment → Moment → Type 0
AreClausesKnown [] before following entry exit = Unit {0}
AreClausesKnown (clause ∷ rest) before following entry exit =
    Knows clause.expr before following entry exit no_names × AreClausesKnown rest before following entry exit

-- what the routine may change: the registers and bytes that `changes` names, and the 126 bytes of the stack from S
-- down, below the return address
abbrev pub may_change : Changes → Part → Bool
may_change changes part_a = changes.a
may_change changes part_x = changes.x
may_change changes part_y = changes.y
may_change changes _ = true

abbrev pub may_store : Changes → ℕ → Bool
may_store changes a = list_any (λ range. nat_le range.first a && nat_le a range.last) changes.ranges.items

abbrev pub is_own : ℕ → ℕ → Bool
is_own s a = in_stack a && nat_lt ((s + 0x200 - a) % 256) 126

-- In a state, the promise is kept within the limit. The routine reaches its own RTS, having depended on nothing
-- unknown. It used the stack only through S, and no more of it than is its own. What is promised depends on nothing
-- unknown and holds after the RTS. What may not change is untouched, or it is known before and equal afterwards.
pub record IsKept (bytes : ℕ → Bool) (parts : Part → Bool) (promise : Promise) (limit : ℕ) (start : World) : Type 0 where
  pub steps : ℕ
  pub within : suc steps ≤ limit
  pub comes : ReachesRts code parts bytes start steps
  pub implied : comes.rts.row.mode ≡ Implied
  pub off_stack : RunIsOffStack start steps
  pub home_off_stack : list_any in_stack (addresses_from (world_at code start steps).registers.pc 3) ≡ false
  pub own : (a : ℕ) → in_stack a ≡ true → is_own start.registers.s a ≡ false → IsNotIn a (stores_in code start steps)
  pub looks : AreClausesKnown promise.promised.items (known_by bytes parts)
      (known_by (bytes_known_after code bytes start steps) (parts_known_after code parts start steps))
      (moment start start 0) (moment start (world_at code start (suc steps)) (suc steps))
  pub ensured : IsEnsured promise start (suc steps)
  pub registers : (part : Part) → may_change promise.changes part ≡ false
      → (parts_known_after code parts start steps part ≡ false)
      ⊎ (IsTrue (parts part) × (held part (world_at code start steps).registers ≡ held part start.registers))
  pub rest : (a : ℕ) → a < ram_end → in_stack a ≡ false → may_store promise.changes a ≡ false
      → IsNotIn a (stores_in code start steps)
      ⊎ (IsTrue (bytes a) × (ram_byte (world_at code start steps).memory a ≡ ram_byte start.memory a))

-- In a world, the promise is kept within the limit: the routine returns to its caller, what is promised holds there,
-- and whatever may not change is unchanged.
pub record Keeps (promise : Promise) (limit : ℕ) (world : World) : Type 0 where
  pub steps : ℕ
  pub within : suc steps ≤ limit
  pub back : GoesBack code world steps
  pub ensured : IsEnsured promise world (suc steps)
  pub registers : (part : Part) → may_change promise.changes part ≡ false
      → held part (world_at code world (suc steps)).registers ≡ held part world.registers
  pub rest : (a : ℕ) → a < ram_end → is_own world.registers.s a ≡ false → may_store promise.changes a ≡ false
      → ram_byte (world_at code world (suc steps)).memory a ≡ ram_byte world.memory a
