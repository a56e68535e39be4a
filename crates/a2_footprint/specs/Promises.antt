-- A promise about a routine: it is tried from every state of some bytes and registers, and holds in every world. This
-- project's own.
use Rattle.std.specs.Prelude.{◌≡◌, ◌≤◌, ◌<◌, ℕ, Bool, ◌||◌, IsTrue, if◌then◌else◌, List, [], ◌∷◌, map}
use Rattle.a2_text.specs.Bytes.{is_among}
use Rattle.a2_page.specs.Grid.{IsGrid}
use Rattle.a2_bus.specs.Memory.{Memory, ram_byte, with_ram, ram_end}
use Rattle.a2_effect.specs.Registers.{Registers, registers_at}
use Rattle.a2_cpu.specs.Stores.{IsNotIn}
use Rattle.a2_services.specs.World.{World}
use Rattle.a2_machine.specs.declared.causes.Cause.TheVariants.{Returned}
use Rattle.a2_machine.specs.Meaning.{Code, IsEnd, return_address, world_at}
use Rattle.a2_footprint.specs.declared.Part.{Part}
use Rattle.a2_footprint.specs.declared.Part.TheVariants.{A as part_a, X as part_x, Y as part_y, N as part_n, V as part_v, D as part_d, I as part_i, Z as part_z, C as part_c}
use Rattle.a2_footprint.specs.Parts.{held, MatchAt}
use Rattle.a2_footprint.specs.Runs.{RunReads, bytes_known_after, stores_in}
use Rattle.a2_footprint.specs.Uses.{RunNeeds, parts_known_after}

-- addresses of RAM, and registers and flags
pub record Selection : Type 0 where
  pub addresses : List ℕ
  pub parts : Part → Bool

-- the values of a selection: its bytes, and the registers; S and PC are always included, and anything else that is not
-- selected is 0 or false
pub record Selected : Type 0 where
  pub bytes : List ℕ
  pub registers : Registers

-- registers whose selected parts are those of another processor
abbrev pub with_selected : (Part → Bool) → Registers → Registers → Registers
with_selected selected from to = record to {
  a = if selected part_a then from.a else to.a;
  x = if selected part_x then from.x else to.x;
  y = if selected part_y then from.y else to.y;
  flags = record {
    n = if selected part_n then from.flags.n else to.flags.n;
    v = if selected part_v then from.flags.v else to.flags.v;
    d = if selected part_d then from.flags.d else to.flags.d;
    i = if selected part_i then from.flags.i else to.flags.i;
    z = if selected part_z then from.flags.z else to.flags.z;
    c = if selected part_c then from.flags.c else to.flags.c;
  };
}

abbrev pub selected : Selection → World → Selected
selected selection world = record {
  bytes = map (λ a. ram_byte world.memory a) selection.addresses;
  registers = with_selected selection.parts world.registers (record (registers_at world.registers.pc) { s = world.registers.s });
}

-- a memory with another's bytes at some addresses
abbrev pub with_bytes_of : Memory → List ℕ → Memory → Memory
with_bytes_of other [] memory = memory
with_bytes_of other (a ∷ rest) memory = with_ram (with_bytes_of other rest memory) a (ram_byte other a)

pub record Promise : Type 0 where
  pub code : Code
  -- a world at the routine's entry
  pub base : World
  -- the parts of the entry state that may have any value, and those that must be as in the base, such as the bytes of
  -- code in memory; anything else must be set before it is used
  pub inputs : Selection
  pub fixed : Selection
  -- the precondition, a test of the values that this selection has at the entry
  pub before : Selection
  pub required : Selected → Bool
  -- the postcondition, a test of those values and of the values that this selection has at the end
  pub following : Selection
  pub test : Selected → Selected → Bool

-- the bytes and parts that a run may use before it stores or sets them
abbrev pub known_bytes : Promise → ℕ → Bool
known_bytes promise a = is_among promise.inputs.addresses a || is_among promise.fixed.addresses a

abbrev pub known_parts : Promise → Part → Bool
known_parts promise part = promise.inputs.parts part || promise.fixed.parts part

-- each byte and part of a selection is known
pub record IsKnown (byte_known : ℕ → Bool) (part_known : Part → Bool) (selection : Selection) : Type 0 where
  pub bytes : (a : ℕ) → IsTrue (is_among selection.addresses a) → (a < ram_end) × IsTrue (byte_known a)
  pub parts : (part : Part) → IsTrue (selection.parts part) → IsTrue (part_known part)

-- the base with the inputs of another world
abbrev pub with_inputs : Promise → World → World
with_inputs promise world = let base = promise.base in record base {
  memory = with_bytes_of world.memory promise.inputs.addresses base.memory;
  registers = with_selected promise.inputs.parts world.registers base.registers;
}

-- the inputs are bytes
pub record AreBytes (promise : Promise) (world : World) : Type 0 where
  pub bytes : (a : ℕ) → IsTrue (is_among promise.inputs.addresses a) → ram_byte world.memory a < 256
  pub registers : (world.registers.a < 256) × (world.registers.x < 256) × (world.registers.y < 256)

-- the precondition holds in a world
abbrev pub IsRequired : Promise → World → Type 0
IsRequired promise world = IsTrue (promise.required (selected promise.before world))

-- the routine returns within the limit without using anything unknown, and the postcondition holds
pub record Passes (promise : Promise) (limit : ℕ) (start : World) : Type 0 where
  pub steps : ℕ
  pub within : steps ≤ limit
  pub reads : RunReads promise.code (known_bytes promise) start steps
  pub needs : RunNeeds promise.code (known_parts promise) start steps
  pub home : (world_at promise.code start steps).registers.pc ≡ return_address
  pub shown : IsKnown (bytes_known_after promise.code (known_bytes promise) start steps)
      (parts_known_after promise.code (known_parts promise) start steps) promise.following
  pub passed : IsTrue (promise.test (selected promise.before start) (selected promise.following (world_at promise.code start steps)))

-- a promise holds: the base passes with all inputs that meet the precondition
pub record Holds (promise : Promise) (Pass : World → Type 0) : Type 0 where
  pub pages : IsGrid promise.base.memory.page1 × IsGrid promise.base.memory.page2
  pub shown : IsKnown (known_bytes promise) (known_parts promise) promise.before
  pub every : (inputs : World) → AreBytes promise inputs → IsRequired promise (with_inputs promise inputs)
      → Pass (with_inputs promise inputs)

-- a world at the routine's entry: it agrees with the base in everything fixed, and the rest of its memory and registers
-- may hold anything
pub record Meets (promise : Promise) (world : World) : Type 0 where
  pub inputs : AreBytes promise world
  pub required : IsRequired promise world
  pub registers : MatchAt promise.fixed.parts promise.base.registers world.registers
  pub bytes : (a : ℕ) → IsTrue (is_among promise.fixed.addresses a) → ram_byte world.memory a ≡ ram_byte promise.base.memory a
  pub devices : world.memory.devices ≡ promise.base.memory.devices
  pub pages : IsGrid world.memory.page1 × IsGrid world.memory.page2
  pub cycles : world.cycles ≡ promise.base.cycles

-- the routine returns within the limit, the postcondition holds, and the routine changes only bytes at which it stores
pub record Keeps (promise : Promise) (limit : ℕ) (world : World) : Type 0 where
  pub steps : ℕ
  pub within : steps ≤ limit
  pub ends : IsEnd promise.code world limit (record { world = world_at promise.code world steps; steps = steps; cause = Returned })
  pub passed : IsTrue (promise.test (selected promise.before world) (selected promise.following (world_at promise.code world steps)))
  pub rest : (b : ℕ) → IsNotIn b (stores_in promise.code world steps)
      → ram_byte (world_at promise.code world steps).memory b ≡ ram_byte world.memory b

abbrev pub PromisesHoldEverywhere : Type 0
PromisesHoldEverywhere =
    (promise : Promise) (limit : ℕ) → Holds promise (Passes promise limit) → (world : World) → Meets promise world → Keeps promise limit world

-- the tries of a promise differ only in their inputs: there are as many tries as there are states of the inputs
abbrev pub TriesDependOnInputs : Type 0
TriesDependOnInputs =
    (promise : Promise) (one other : World)
    → ((a : ℕ) → IsTrue (is_among promise.inputs.addresses a) → ram_byte one.memory a ≡ ram_byte other.memory a)
    → ((part : Part) → IsTrue (promise.inputs.parts part) → held part one.registers ≡ held part other.registers)
    → with_inputs promise one ≡ with_inputs promise other
