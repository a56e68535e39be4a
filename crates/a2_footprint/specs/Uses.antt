-- A run depends only on the bytes that it reads and the registers and flags that it uses. This project's own.
use Rattle.std.specs.Prelude.{◌≡◌, ◌<◌, ℕ, zero, suc, Bool, List, [], ◌++◌, Some, None, Result, Ok, Err}
use Rattle.a2_effect.specs.Instruction.{State}
use Rattle.a2_services.specs.Services.{service_at}
use Rattle.a2_services.specs.World.{World}
use Rattle.a2_machine.specs.declared.causes.Cause.{Cause}
use Rattle.a2_machine.specs.Meaning.{Code, Decoded, found_at_pc, world_at}
use Rattle.a2_footprint.specs.Reads.{Knows, AgreeOn}
use Rattle.a2_footprint.specs.declared.Part.{Part}
use Rattle.a2_footprint.specs.InstructionParts.{needs, mode_needs, sets_parts}
use Rattle.a2_footprint.specs.Parts.{MatchAt, with_parts}
use Rattle.a2_footprint.specs.Runs.{RunReads, RunsAlike, bytes_known_after}
use Rattle.a2_footprint.specs.Services.{service_needs, service_sets}

-- two states agree in the known parts of the registers, have equal cycles, and their memories are related
pub record Near {M N : Type 0} (known : Part → Bool) (R : M → N → Type 0) (s : State M) (t : State N) : Type 0 where
  pub registers : MatchAt known s.registers t.registers
  pub cycles : s.cycles ≡ t.cycles
  pub memory : R s.memory t.memory

-- the parts that the instruction found at PC uses, and those that it sets
abbrev pub found_needs : Result Decoded Cause → List Part
found_needs (Ok decoded) = needs decoded.row.mnemonic ++ mode_needs decoded.row.mode
found_needs (Err cause) = []

abbrev pub found_sets : Result Decoded Cause → List Part
found_sets (Ok decoded) = sets_parts decoded.row.mnemonic
found_sets (Err cause) = []

-- the parts that the next step, which is a service or an instruction, uses, and those that it sets
unfoldable pub step_needs : Code → World → List Part
step_needs code world =
    elim (service_at world.registers.pc) [ Some service ↦ service_needs service | None ↦ found_needs (found_at_pc code world) ]

unfoldable pub step_sets : Code → World → List Part
step_sets code world =
    elim (service_at world.registers.pc) [ Some service ↦ service_sets service | None ↦ found_sets (found_at_pc code world) ]

-- the parts known after this many steps: those known before, and those that were set
unfoldable pub parts_known_after : Code → (Part → Bool) → World → ℕ → Part → Bool
parts_known_after code known start zero = known
parts_known_after code known start (suc n) =
    with_parts (step_sets code (world_at code start n)) (parts_known_after code known start n)

-- this many steps use only parts that were known, or that earlier steps set
abbrev pub RunNeeds : Code → (Part → Bool) → World → ℕ → Type 0
RunNeeds code known start n =
    (k : ℕ) → k < n → Knows (parts_known_after code known start k) (step_needs code (world_at code start k))

abbrev pub RunsDependOnUses : Type 0
RunsDependOnUses =
    (code : Code) (parts : Part → Bool) (bytes : ℕ → Bool) (s t : World) (n : ℕ) → Near parts (AgreeOn bytes) s t
    → RunReads code bytes s n → RunNeeds code parts s n
    → Near (parts_known_after code parts s n) (AgreeOn (bytes_known_after code bytes s n)) (world_at code s n) (world_at code t n)
    × RunsAlike code s t n
