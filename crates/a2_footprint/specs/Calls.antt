-- A routine that can be called from anywhere: its RTS returns to its caller. This project's own.
use Rattle.std.specs.Prelude.{◌≡◌, ◌<◌, ◌≤◌, ℕ, suc, ◌+◌, ◌*◌, ◌%◌, Bool, IsTrue, None, Ok}
use Rattle.a2_opcode.specs.declared.Mnemonic.TheVariants.{Rts}
use Rattle.a2_bus.specs.Memory.{Memory, ram_byte}
use Rattle.a2_effect.specs.Registers.{Registers}
use Rattle.a2_cpu.specs.Stores.{IsNotIn}
use Rattle.a2_services.specs.World.{World}
use Rattle.a2_services.specs.Services.{service_at}
use Rattle.a2_machine.specs.Meaning.{Code, Decoded, stuck, world_at}
use Rattle.a2_footprint.specs.InstructionReads.{pull_address}
use Rattle.a2_footprint.specs.Reads.{AgreeOn}
use Rattle.a2_footprint.specs.declared.Part.{Part}
use Rattle.a2_footprint.specs.Runs.{RunReads, stores_in, bytes_known_after}
use Rattle.a2_footprint.specs.Uses.{Near, RunNeeds, parts_known_after}
use Rattle.a2_footprint.specs.Promises.{Promise, IsKnown, Holds, Meets, known_bytes, known_parts, selected}

-- This many steps lead to an RTS, with S as at the entry. None of them stores at the return address, which need not be
-- known.
pub record ReachesRts (code : Code) (parts : Part → Bool) (bytes : ℕ → Bool) (start : World) (n : ℕ) : Type 0 where
  pub reads : RunReads code bytes start n
  pub needs : RunNeeds code parts start n
  pub going : stuck code (world_at code start n) ≡ None
  pub no_service : service_at (world_at code start n).registers.pc ≡ None
  pub rts : Decoded
  pub is_rts : rts.row.mnemonic ≡ Rts
  pub found : (other : Memory) → AgreeOn (bytes_known_after code bytes start n) (world_at code start n).memory other
      → code.instruction_at other (world_at code start n).registers.pc ≡ Ok rts
  pub s : (world_at code start n).registers.s ≡ start.registers.s
  pub low : IsNotIn (pull_address start.registers.s 1) (stores_in code start n)
  pub high : IsNotIn (pull_address start.registers.s 2) (stores_in code start n)

-- the address after the JSR that left a return address on the stack
abbrev pub caller : World → ℕ
caller world =
    (ram_byte world.memory (pull_address world.registers.s 1) + 256 * ram_byte world.memory (pull_address world.registers.s 2) + 1) % 65536

-- This many steps and an RTS return to the caller, and none of them is stuck. The RTS changes only S and PC.
pub record GoesBack (code : Code) (start : World) (n : ℕ) : Type 0 where
  pub going : (k : ℕ) → k < suc n → stuck code (world_at code start k) ≡ None
  pub registers : (world_at code start (suc n)).registers
      ≡ (let r : Registers = (world_at code start n).registers in record r { s = (start.registers.s + 2) % 256; pc = caller start })
  pub memory : (world_at code start (suc n)).memory ≡ (world_at code start n).memory

-- a run from another world that agrees in everything this run uses returns to its own caller
abbrev pub CallsGoBack : Type 0
CallsGoBack =
    (code : Code) (parts : Part → Bool) (bytes : ℕ → Bool) (s t : World) (n : ℕ) → Near parts (AgreeOn bytes) s t
    → ReachesRts code parts bytes s n → GoesBack code t n

-- A promise about calls: the routine reaches an RTS within the limit, and the postcondition holds there.
pub record CallPasses (promise : Promise) (limit : ℕ) (start : World) : Type 0 where
  pub steps : ℕ
  pub within : steps ≤ limit
  pub comes : ReachesRts promise.code (known_parts promise) (known_bytes promise) start steps
  pub shown : IsKnown (bytes_known_after promise.code (known_bytes promise) start steps)
      (parts_known_after promise.code (known_parts promise) start steps) promise.following
  pub passed : IsTrue (promise.test (selected promise.before start) (selected promise.following (world_at promise.code start steps)))

-- the routine returns to its caller within the limit, the postcondition holds, and it changes only bytes at which it
-- stores
pub record CallKeeps (promise : Promise) (limit : ℕ) (world : World) : Type 0 where
  pub steps : ℕ
  pub within : steps ≤ limit
  pub back : GoesBack promise.code world steps
  pub passed : IsTrue (promise.test (selected promise.before world) (selected promise.following (world_at promise.code world steps)))
  pub rest : (b : ℕ) → IsNotIn b (stores_in promise.code world steps)
      → ram_byte (world_at promise.code world (suc steps)).memory b ≡ ram_byte world.memory b

-- so a promise holds for every caller, with the same S as in the tries
abbrev pub CallPromisesHoldEverywhere : Type 0
CallPromisesHoldEverywhere =
    (promise : Promise) (limit : ℕ) → Holds promise (CallPasses promise limit) → (world : World) → Meets promise world
    → CallKeeps promise limit world
