-- What a step changes, as a row of a film says it, and the frames that such rows give. This project's profile.
use Rattle.std.specs.Prelude.{ℕ, zero, suc, ◌+◌, ◌-◌, ◌*◌, nat_lt, ◌==◌, List, [], ◌∷◌, length, if◌then◌else◌, Option, Some, None}
use Rattle.std.specs.Prelude.{unwrap_or}
use Rattle.a2_page.specs.declared.Switches.{Switches}
use Rattle.a2_bus.specs.Devices.{Devices, key_taken, keys_typed}
use Rattle.a2_opcode.specs.Encoding.{fetched}
use Rattle.a2_bus.specs.Memory.{ram_byte, ram_end, peek, memory_access}
use Rattle.a2_effect.specs.Registers.{Registers, byte_of_flags, flags_of_byte, is_one_at, one_if}
use Rattle.a2_cpu.specs.StepStores.{stores_at}
use Rattle.a2_services.specs.Services.{service_at}
use Rattle.a2_services.specs.World.{World}
use Rattle.a2_machine.specs.Meaning.{Code, world_at}
use Rattle.a2_timed_keys.specs.Finished.{Finished}
use Rattle.a2_timed_keys.specs.Rerun.{worlds_of}
use Rattle.a2_timed_keys.specs.Typed.{keys_at}

-- Runs

-- a run: the world after so many steps, with the keys that are typed there, and these keys
pub record Course : Type 0 where
  pub world : ℕ → World
  pub typed : ℕ → List ℕ

-- a run in which no key is typed
abbrev pub course_of : Code → World → Course
course_of code start = record { world = world_at code start; typed = λ _. [] }

-- a finished run
abbrev pub course_in : Finished → Course
course_in f = record { world = worlds_of f; typed = keys_at f.log }

-- Changes

-- an address of RAM, and the byte there
abbrev pub Store : Type 0
Store = ℕ × ℕ

-- what a row says of a step
pub record Change : Type 0 where
  pub pc : ℕ
  -- those of the step
  pub cycles : ℕ
  -- the changed ones of A, X, Y, S, the flags as a byte, and the switches as a digit
  pub a : Option ℕ
  pub x : Option ℕ
  pub y : Option ℕ
  pub s : Option ℕ
  pub p : Option ℕ
  pub switches : Option ℕ
  -- how many keys the step took, and the keys that were typed after it
  pub keys : ℕ
  pub typed : List ℕ
  pub stores : List Store

-- the new number, if it differs from the old
abbrev pub changed : ℕ → ℕ → Option ℕ
changed old new = if old == new then None else Some new

-- the switches as a digit: 1 for text, 2 for mixed, 4 for page 2, 8 for high resolution
abbrev pub switch_digit : Switches → ℕ
switch_digit switches = one_if switches.text + 2 * one_if switches.mixed + 4 * one_if switches.page2 + 8 * one_if switches.hires

abbrev pub switches_of : ℕ → Switches
switches_of digit = record {
  text = is_one_at 0 digit;
  mixed = is_one_at 1 digit;
  page2 = is_one_at 2 digit;
  hires = is_one_at 3 digit;
}

-- the bytes of RAM at these addresses; an address that is not in RAM is left out
abbrev pub bytes_at : (ℕ → ℕ) → List ℕ → List Store
bytes_at byte_at [] = []
bytes_at byte_at (a ∷ others) = if nat_lt a ram_end then (a, byte_at a) ∷ bytes_at byte_at others else bytes_at byte_at others

-- of so many addresses from one on, upwards, those whose byte changed, with the new byte
unfoldable pub differing : (ℕ → ℕ) → (ℕ → ℕ) → ℕ → ℕ → List Store
differing old new a zero = []
differing old new a (suc n) = if old a == new a then differing old new (a + 1) n else (a, new a) ∷ differing old new (a + 1) n

-- What the step between two worlds stores in RAM: for an instruction each store, in order, even of the byte that was there. A
-- service writes into RAM without a log: so for a service's step these are the bytes that differ afterwards.
unfoldable pub stored : World → World → List Store
stored before after =
    elim (service_at before.registers.pc) [
      | Some service ↦ differing (ram_byte before.memory) (ram_byte after.memory) 0 ram_end
      | None ↦ bytes_at (ram_byte after.memory)
          (stores_at memory_access (fetched (peek before.memory) before.registers.pc) before)
    ]

-- the change between two worlds, the second one with keys that were typed there, if these bytes are stored
abbrev pub change_between : World → List ℕ → World → List Store → Change
change_between before typed after stores =
    let old = before.registers in
    let new = after.registers in
    let was = before.memory.devices in
    let is = after.memory.devices in
    record {
      pc = new.pc;
      cycles = after.cycles - before.cycles;
      a = changed old.a new.a;
      x = changed old.x new.x;
      y = changed old.y new.y;
      s = changed old.s new.s;
      p = changed (byte_of_flags old.flags) (byte_of_flags new.flags);
      switches = changed (switch_digit was.switches) (switch_digit is.switches);
      keys = length was.keys - (length is.keys - length typed);
      typed = typed;
      stores = stores;
    }

-- the change that the step between two worlds makes, with the keys that are typed after it
abbrev pub change_of : World → List ℕ → World → Change
change_of before typed after = change_between before typed after (stored before after)

-- the change that a step of a run makes, counted from 0
abbrev pub change_at : Course → ℕ → Change
change_at course n = change_of (course.world n) (course.typed (suc n)) (course.world (suc n))

-- Frames

-- what a film shows of a world: the byte at each address of RAM, and everything else
pub record Frame : Type 0 where
  pub registers : Registers
  pub bytes : ℕ → ℕ
  pub devices : Devices
  pub cycles : ℕ

abbrev pub frame_of : World → Frame
frame_of world = record {
  registers = world.registers;
  bytes = ram_byte world.memory;
  devices = world.memory.devices;
  cycles = world.cycles;
}

-- the first so many of the waiting keys are taken
abbrev pub keys_taken : ℕ → Devices → Devices
keys_taken zero devices = devices
keys_taken (suc n) devices = key_taken (keys_taken n devices)

-- one after another, these bytes are stored
abbrev pub with_stores : List Store → (ℕ → ℕ) → ℕ → ℕ
with_stores [] bytes = bytes
with_stores (store ∷ stores) bytes = with_stores stores (λ a. if a == store.0 then store.1 else bytes a)

-- a frame after a change
abbrev pub applied : Change → Frame → Frame
applied change frame =
    let old = frame.registers in
    record {
      registers = record {
        a = unwrap_or change.a old.a;
        x = unwrap_or change.x old.x;
        y = unwrap_or change.y old.y;
        s = unwrap_or change.s old.s;
        pc = change.pc;
        flags = flags_of_byte (unwrap_or change.p (byte_of_flags old.flags));
      };
      bytes = with_stores change.stores frame.bytes;
      devices = keys_typed (record (keys_taken change.keys frame.devices) {
        switches = switches_of (unwrap_or change.switches (switch_digit frame.devices.switches));
      }) change.typed;
      cycles = frame.cycles + change.cycles;
    }

-- so many changes of a run, after the first so many steps, applied to the world there
abbrev pub frame_at : Course → ℕ → ℕ → Frame
frame_at course from zero = frame_of (course.world from)
frame_at course from (suc n) = applied (change_at course (from + n)) (frame_at course from n)
