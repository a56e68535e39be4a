-- A run with what is done by hand during it, such as typing keys: its world at each position, which is the number of steps from the
-- start.
use Rattle.std.specs.Prelude.{◌≡◌, ℕ, zero, suc, ◌+◌, ◌<◌, ◌==◌, nat_le, nat_lt, List, [], ◌∷◌, length, if◌then◌else◌, None}
use Rattle.a2_bus.specs.Devices.{keys_typed}
use Rattle.a2_bus.specs.Memory.{ram_end, with_ram}
use Rattle.a2_effect.specs.View.{registers_of}
use Rattle.a2_services.specs.World.{World}
use Rattle.a2_machine.specs.Meaning.{stuck, next}
use Rattle.a2_machine.specs.State.{MachineState, world_of_state, code_of}
use Rattle.a2_history.specs.declared.actions.Change.{Change}
use Rattle.a2_history.specs.declared.actions.Change.TheVariants.{Registers, Byte}
use Rattle.a2_history.specs.declared.actions.Action.{Action}
use Rattle.a2_history.specs.declared.actions.Action.TheVariants.{Keys, Change as Changed}
use Rattle.a2_history.specs.declared.actions.Logged.{Logged}

pub record Course : Type 0 where
  -- the machine at the start
  pub origin : MachineState
  -- what was done by hand, each time with the position
  pub log : List Logged

-- the world after keys are typed
abbrev pub typed : List ℕ → World → World
typed keys world =
    let memory = world.memory in
    record world { memory = record memory { devices = keys_typed memory.devices keys } }

-- typing keys; if more than 4,096 would wait, none of them is typed
unfoldable pub with_keys : List ℕ → World → World
with_keys keys world = if nat_le (length world.memory.devices.keys + length keys) 4096 then typed keys world else world

-- all registers get these values, or a byte of RAM gets a value
abbrev pub with_change : Change → World → World
with_change (Registers regs) world = record world { registers = registers_of regs }
with_change (Byte address byte) world =
    if nat_lt address ram_end then (let memory = world.memory in record world { memory = with_ram memory address byte }) else world

-- the world after something is done by hand
abbrev pub with_action : Action → World → World
with_action (Keys keys) world = with_keys keys world
with_action (Changed change) world = with_change change world

-- the world after what a log holds for a position was done
unfoldable pub with_logged : List Logged → ℕ → World → World
with_logged [] position world = world
with_logged (l ∷ ls) position world = with_logged ls position (if l.position == position then with_action l.action world else world)

-- the world at a position, before anything was done there by hand
unfoldable pub arrived : Course → ℕ → World
arrived course zero = world_of_state course.origin
arrived course (suc n) = next (code_of course.origin) (with_logged course.log n (arrived course n))

-- the world at a position, after what was done there by hand
unfoldable pub world_on : Course → ℕ → World
world_on course n = with_logged course.log n (arrived course n)

-- no world at an earlier position is stuck
abbrev pub NoneStuck : Course → ℕ → Type 0
NoneStuck course n = (k : ℕ) → k < n → stuck (code_of course.origin) (world_on course k) ≡ None
