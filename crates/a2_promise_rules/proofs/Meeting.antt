-- What a routine meets, whatever its caller: the terms in which proofs of promises are written.
use Rattle.std.specs.Prelude.{◌≡◌, ℕ, ◌<◌, ◌+◌, ◌*◌, ◌%◌, false, Some, unwrap_or}
use Rattle.a2_bus.specs.Memory.{Memory, ram_byte}
use Rattle.a2_services.specs.World.{World}
use Rattle.a2_machine.specs.Meaning.{Code}
use Rattle.a2_machine.proofs.Walks.{walked, Leads}
use Rattle.a2_theorems.specs.Routines.{HasBytes}
use Rattle.a2_footprint.proofs.Agreeing.{Pages}
use Rattle.a2_promise_rules.specs.Worlds.{OnlyBytes}

-- a memory whose RAM holds bytes, and whose text pages have 24 rows of 40 cells, so that a byte stored in a cell is
-- read back there
pub record Whole (m : Memory) : Type 0 where
  pub bytes : HasBytes m
  pub pages : Pages m

-- a world of bytes with such a memory
pub record IsWhole (w : World) : Type 0 where
  pub a : w.registers.a < 256
  pub x : w.registers.x < 256
  pub y : w.registers.y < 256
  pub ram : Whole w.memory

pub only_bytes : (w : World) → IsWhole w → OnlyBytes w
only_bytes w whole = record { a = whole.a; x = whole.x; y = whole.y; ram = whole.ram.bytes }

-- a world with this PC and S, and D clear
abbrev pub enter : (pc s : ℕ) → World → World
enter pc s w = record w { registers = record w.registers { pc = pc; s = s; flags = record w.registers.flags { d = false } } }

-- some number of steps, none of them stuck, leads to a world in which `Q` holds
abbrev pub Reaches : Code → World → (World → Type 0) → Type 0
Reaches code w Q = (n : ℕ) × Leads code w n Q

-- the world after this many steps
abbrev pub stepped : Code → World → ℕ → World
stepped code w n = unwrap_or (walked code w n) w

-- the return address on the stack, which the JSR left
abbrev pub home : (s : ℕ) → World → ℕ
home s w = (ram_byte w.memory (0x101 + s) + 256 * ram_byte w.memory (0x102 + s) + 1) % 65536

-- a step, an RTS, returns to the place after the call
pub record Back (code : Code) (s : ℕ) (w u v : World) : Type 0 where
  pub step : walked code u 1 ≡ Some v
  pub to : ℕ
  pub registers : v.registers ≡ record u.registers { s = s + 2; pc = to }
  pub memory : v.memory ≡ u.memory
  pub home : to ≡ home s w
  pub decimal : u.registers.flags.d ≡ false

-- If the routine is entered with this S in any whole world in which `Before` holds, it reaches its RTS, and `After`
-- holds after it.
abbrev pub Meets : Code → (to s : ℕ) → (Before : World → Type 0) → (After : World → World → Type 0) → Type 0
Meets code to s Before After =
    (w : World) → IsWhole w → Before w → Reaches code (enter to s w) (λ u. (v : World) × Back code s w u v × After w v)
