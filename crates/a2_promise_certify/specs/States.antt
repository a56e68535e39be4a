-- The states of inputs in which a routine is entered. This project's own.
use Rattle.std.specs.Prelude.{◌≡◌, ℕ, ◌%◌, ◌==◌, ◌||◌, Bool, true, false, IsTrue, List, [], ◌∷◌, map}
use Rattle.a2_page.specs.Grid.{IsGrid}
use Rattle.a2_bus.specs.Memory.{ram_byte, with_ram}
use Rattle.a2_effect.specs.Registers.{StatusFlags, one_if}
use Rattle.a2_services.specs.World.{World}
use Rattle.a2_footprint.specs.declared.Part.{Part}
use Rattle.a2_footprint.specs.declared.Part.TheVariants.{A as part_a, X as part_x, Y as part_y, N as part_n, V as part_v, D as part_d, I as part_i, Z as part_z, C as part_c}
use Rattle.a2_footprint.specs.Counting.{IsState, state_at}
use Rattle.a2_footprint.specs.Parts.{MatchAt, is_part}
use Rattle.a2_promise_certify.specs.declared.input.Input.{Input}
use Rattle.a2_promise_certify.specs.declared.input.Input.TheVariants.{A, X, Y, Carry, Zero, Negative, Overflow, Interrupt, Byte}

-- the number of values that an input has
abbrev pub values_of : Input → ℕ
values_of A = 256
values_of X = 256
values_of Y = 256
values_of (Byte a) = 256
values_of _ = 2

-- the value of an input in a world; 1 for a flag that is set
abbrev pub value_in : World → Input → ℕ
value_in world A = world.registers.a
value_in world X = world.registers.x
value_in world Y = world.registers.y
value_in world Carry = one_if world.registers.flags.c
value_in world Zero = one_if world.registers.flags.z
value_in world Negative = one_if world.registers.flags.n
value_in world Overflow = one_if world.registers.flags.v
value_in world Interrupt = one_if world.registers.flags.i
value_in world (Byte a) = ram_byte world.memory a

abbrev pub with_flags : StatusFlags → World → World
with_flags flags world = record world { registers = record world.registers { flags = flags } }

-- the same world with another value for an input
abbrev pub with_value : Input → ℕ → World → World
with_value A value world = record world { registers = record world.registers { a = value } }
with_value X value world = record world { registers = record world.registers { x = value } }
with_value Y value world = record world { registers = record world.registers { y = value } }
with_value Carry value world = with_flags (record world.registers.flags { c = value % 2 == 1 }) world
with_value Zero value world = with_flags (record world.registers.flags { z = value % 2 == 1 }) world
with_value Negative value world = with_flags (record world.registers.flags { n = value % 2 == 1 }) world
with_value Overflow value world = with_flags (record world.registers.flags { v = value % 2 == 1 }) world
with_value Interrupt value world = with_flags (record world.registers.flags { i = value % 2 == 1 }) world
with_value (Byte a) value world = record world { memory = with_ram world.memory a value }

-- a world with these values of inputs
abbrev pub with_values : List Input → List ℕ → World → World
with_values (input ∷ inputs) (value ∷ values) world = with_value input value (with_values inputs values world)
with_values _ _ world = world

-- What is tried: a world at the routine's entry, the inputs that take each of their values there, and the addresses
-- of fixed bytes. Every world has the fixed bytes as this one has them; they include those of the code.
pub record Trial : Type 0 where
  pub base : World
  pub inputs : List Input
  pub fixed : ℕ → Bool

-- the same trial with another S at the entry
abbrev pub with_s : ℕ → Trial → Trial
with_s s trial = record trial { base = record trial.base { registers = record trial.base.registers { s = s } } }

-- the state with a given number
abbrev pub state_of : Trial → ℕ → World
state_of trial number = with_values trial.inputs (state_at (map values_of trial.inputs) number) trial.base

abbrev pub is_byte : ℕ → Input → Bool
is_byte a (Byte b) = b == a
is_byte a _ = false

abbrev pub holds_part : Input → Part → Bool
holds_part A part_a = true
holds_part X part_x = true
holds_part Y part_y = true
holds_part Carry part_c = true
holds_part Zero part_z = true
holds_part Negative part_n = true
holds_part Overflow part_v = true
holds_part Interrupt part_i = true
holds_part _ _ = false

abbrev pub has_byte : List Input → ℕ → Bool
has_byte [] a = false
has_byte (input ∷ rest) a = is_byte a input || has_byte rest a

abbrev pub has_part : List Input → Part → Bool
has_part [] part = false
has_part (input ∷ rest) part = holds_part input part || has_part rest part

-- The bytes and parts that are known at the entry. D is always known, and is clear.
abbrev pub known_bytes : Trial → ℕ → Bool
known_bytes trial a = has_byte trial.inputs a || trial.fixed a

abbrev pub known_parts : Trial → Part → Bool
known_parts trial part = has_part trial.inputs part || is_part part part_d

-- A world at the routine's entry, wherever it was called from. S, PC, D, the fixed bytes and the devices are those of
-- the trial. The inputs have values that a byte or a flag can have; everything else in memory and registers is
-- arbitrary.
pub record Enters (trial : Trial) (world : World) : Type 0 where
  pub registers : MatchAt (λ part. is_part part part_d) trial.base.registers world.registers
  pub bytes : (a : ℕ) → IsTrue (trial.fixed a) → ram_byte trial.base.memory a ≡ ram_byte world.memory a
  pub devices : trial.base.memory.devices ≡ world.memory.devices
  pub pages : IsGrid world.memory.page1 × IsGrid world.memory.page2
  pub cycles : trial.base.cycles ≡ world.cycles
  pub inputs : IsState (map values_of trial.inputs) (map (value_in world) trial.inputs)
