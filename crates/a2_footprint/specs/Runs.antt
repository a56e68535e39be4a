-- An instruction, a step and a run depend only on what they read. This project's own.
use Rattle.std.specs.Prelude.{◌≡◌, ◌<◌, ◌≤◌, ℕ, zero, suc, Bool, true, List, [], ◌++◌, Some, None, Result, Ok, Err, MatchOption}
use Rattle.a2_opcode.specs.declared.Row.{Row}
use Rattle.a2_bus.specs.Memory.{Memory, memory_access, ram_byte}
use Rattle.a2_effect.specs.Instruction.{Alike, performed}
use Rattle.a2_cpu.specs.Stores.{stores_of, IsNotIn}
use Rattle.a2_services.specs.World.{World}
use Rattle.a2_services.specs.Services.{service_at}
use Rattle.a2_machine.specs.declared.causes.Cause.{Cause}
use Rattle.a2_machine.specs.declared.causes.Cause.TheVariants.{Returned}
use Rattle.a2_machine.specs.Meaning.{Code, Decoded, IsEnd, found_at_pc, return_address, stuck, next, world_at}
use Rattle.a2_footprint.specs.InstructionReads.{reads_of}
use Rattle.a2_footprint.specs.Reads.{Knows, with_bytes, AgreeOn}
use Rattle.a2_footprint.specs.Services.{is_keyless, service_reads, service_stores}

-- Two states agree in the known bytes, and an instruction reads no others. Then they agree after it in the bytes that
-- it stored as well, and it stores at the same addresses in both.
abbrev pub InstructionsDependOnReads : Type 0
InstructionsDependOnReads =
    (row : Row) (value : ℕ) (known : ℕ → Bool) (s t : World) → Alike (AgreeOn known) s t
    → Knows known (reads_of memory_access row value s)
    → Alike (AgreeOn (with_bytes (stores_of memory_access row value s) known))
    (performed memory_access row value s) (performed memory_access row value t)
    × (stores_of memory_access row value s ≡ stores_of memory_access row value t)

-- the addresses that the instruction found at PC reads, and those at which it stores
abbrev pub found_reads : Result Decoded Cause → World → List ℕ
found_reads (Ok decoded) world = reads_of memory_access decoded.row decoded.value world
found_reads (Err cause) world = []

abbrev pub found_stores : Result Decoded Cause → World → List ℕ
found_stores (Ok decoded) world = stores_of memory_access decoded.row decoded.value world
found_stores (Err cause) world = []

-- the addresses that the next step, which is a service or an instruction, reads, and those at which it stores
unfoldable pub step_reads : Code → World → List ℕ
step_reads code world =
    elim (service_at world.registers.pc) [
      | Some service ↦ service_reads service world
      | None ↦ found_reads (found_at_pc code world) world
    ]

unfoldable pub step_stores : Code → World → List ℕ
step_stores code world =
    elim (service_at world.registers.pc) [
      | Some service ↦ service_stores service world
      | None ↦ found_stores (found_at_pc code world) world
    ]

-- A step is executed, and reads only known bytes. It is either a service that needs no key or an instruction. An
-- instruction must be the same in every memory that agrees in the known bytes; for the statements of a program this is
-- always so.
pub record StepReads (code : Code) (known : ℕ → Bool) (world : World) : Type 0 where
  pub going : stuck code world ≡ None
  pub found : MatchOption (service_at world.registers.pc)
      ((other : Memory) → AgreeOn known world.memory other → code.instruction_at other world.registers.pc ≡ found_at_pc code world)
      (λ service. is_keyless service ≡ true)
  pub reads : Knows known (step_reads code world)

-- the same for a step: it is not stuck in the other world either
abbrev pub StepsDependOnReads : Type 0
StepsDependOnReads =
    (code : Code) (known : ℕ → Bool) (s t : World) → Alike (AgreeOn known) s t → StepReads code known s
    → (stuck code t ≡ None)
    × Alike (AgreeOn (with_bytes (step_stores code s) known)) (next code s) (next code t)
    × (step_stores code s ≡ step_stores code t)

-- the addresses at which this many steps store
unfoldable pub stores_in : Code → World → ℕ → List ℕ
stores_in code start zero = []
stores_in code start (suc n) = stores_in code start n ++ step_stores code (world_at code start n)

-- the bytes known after this many steps: those known before, and those that were stored
unfoldable pub bytes_known_after : Code → (ℕ → Bool) → World → ℕ → ℕ → Bool
bytes_known_after code known start zero = known
bytes_known_after code known start (suc n) = with_bytes (step_stores code (world_at code start n)) (bytes_known_after code known start n)

-- this many steps read only bytes that were known, or that earlier steps stored
abbrev pub RunReads : Code → (ℕ → Bool) → World → ℕ → Type 0
RunReads code known start n =
    (k : ℕ) → k < n → StepReads code (bytes_known_after code known start k) (world_at code start k)

-- This many steps from two worlds: none from the other world is stuck, both runs store at the same addresses, and each
-- other byte is unchanged. If the run from the first world returns, so does the other.
pub record RunsAlike (code : Code) (s t : World) (n : ℕ) : Type 0 where
  pub going : (k : ℕ) → k < n → stuck code (world_at code t k) ≡ None
  pub stores : stores_in code s n ≡ stores_in code t n
  pub rest : (b : ℕ) → IsNotIn b (stores_in code s n) → ram_byte (world_at code t n).memory b ≡ ram_byte t.memory b
  pub returns : (limit : ℕ) → n ≤ limit → (world_at code s n).registers.pc ≡ return_address
      → IsEnd code t limit (record { world = world_at code t n; steps = n; cause = Returned })

abbrev pub RunsDependOnReads : Type 0
RunsDependOnReads =
    (code : Code) (known : ℕ → Bool) (s t : World) (n : ℕ) → Alike (AgreeOn known) s t → RunReads code known s n
    → Alike (AgreeOn (bytes_known_after code known s n)) (world_at code s n) (world_at code t n) × RunsAlike code s t n
