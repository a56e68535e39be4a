-- The stack rotated within its page: a run that uses it only through S does the same for every value of S. This
-- project's own. MCS6500 Programming Manual, chapter 8, describes the stack, which wraps in page 1.
use Rattle.std.specs.Prelude.{◌≡◌, ◌<◌, ℕ, ◌+◌, ◌%◌, Bool, true, false, if◌then◌else◌, List, [], None, Result, Ok, Err, MatchOption}
use Rattle.std.specs.List.{list_any}
use Rattle.a2_text.specs.Bytes.{is_between}
use Rattle.a2_opcode.specs.declared.Mnemonic.{Mnemonic}
use Rattle.a2_opcode.specs.declared.Mnemonic.TheVariants.{Tsx, Txs}
use Rattle.a2_bus.specs.Memory.{Memory, memory_access}
use Rattle.a2_effect.specs.Effect.{Effect, takes, replaces, stores, jumps, effect_of}
use Rattle.a2_effect.specs.Place.{Place, place_of}
use Rattle.a2_services.specs.Services.{service_at}
use Rattle.a2_services.specs.World.{World}
use Rattle.a2_machine.specs.declared.causes.Cause.{Cause}
use Rattle.a2_machine.specs.ByteRun.{bytes}
use Rattle.a2_machine.specs.Meaning.{Decoded, found_at_pc, stuck, world_at}
use Rattle.a2_footprint.specs.InstructionReads.{jump_reads, place_reads, pointer_reads}
use Rattle.a2_footprint.specs.declared.Part.{Part}
use Rattle.a2_footprint.specs.Fetches.{addresses_from}
use Rattle.a2_footprint.specs.Reads.{AgreeOn}
use Rattle.a2_footprint.specs.Runs.{RunReads}
use Rattle.a2_footprint.specs.Services.{is_keyless}
use Rattle.a2_footprint.specs.Uses.{Near, RunNeeds}

-- an address is in the stack's page
abbrev pub in_stack : ℕ → Bool
in_stack address = is_between 0x100 0x1FF address

-- the address this many bytes further up in the stack's page, which wraps; any other address is unchanged
abbrev pub rotated_address : ℕ → ℕ → ℕ
rotated_address turn address = if in_stack address then 0x100 + (address + turn) % 256 else address

-- a memory whose stack page holds what another one holds this many bytes further up
abbrev pub rotated_memory : ℕ → Memory → Memory
rotated_memory turn memory = record memory { plain = λ address. memory.plain (rotated_address turn address) }

-- a world is another one with its stack rotated, and S moved with it
pub record IsRotated (turn : ℕ) (world other : World) : Type 0 where
  pub registers : world.registers ≡ record other.registers { s = world.registers.s }
  pub low : other.registers.s < 256
  pub s : (other.registers.s + turn) % 256 ≡ world.registers.s
  pub memory : other.memory ≡ rotated_memory turn world.memory
  pub cycles : other.cycles ≡ world.cycles

-- the addresses that an effect at a place reads and stores at, except those on the stack
abbrev pub operand_uses : Effect → Place → List ℕ
operand_uses (takes change) place = place_reads place
operand_uses (replaces change) place = place_reads place
operand_uses (stores byte) place = place_reads place
operand_uses jumps place = jump_reads place
operand_uses _ place = []

abbrev pub moves_s : Mnemonic → Bool
moves_s Tsx = true
moves_s Txs = true
moves_s _ = false

-- an instruction uses the stack only through S: it is not TSX or TXS, and its operand is outside the stack's page
pub record IsOffStack (decoded : Decoded) (world : World) : Type 0 where
  pub mnemonic : moves_s decoded.row.mnemonic ≡ false
  pub pointer : list_any in_stack (pointer_reads decoded.row.mode decoded.value world.registers) ≡ false
  pub operand : list_any in_stack (operand_uses (effect_of decoded.row.mnemonic)
      (place_of memory_access world.memory world.registers decoded.row.mode decoded.value)) ≡ false

abbrev pub FoundOffStack : Result Decoded Cause → World → Type 0
FoundOffStack (Ok decoded) world = IsOffStack decoded world
FoundOffStack (Err cause) world = Unit {0}

-- a step uses the stack only through S: it is such an instruction, with its bytes (at most three) outside the stack's
-- page, or a service that needs no key
abbrev pub StepIsOffStack : World → Type 0
StepIsOffStack world =
    MatchOption (service_at world.registers.pc)
    ((list_any in_stack (addresses_from world.registers.pc 3) ≡ false) × FoundOffStack (found_at_pc (bytes None) world) world)
    (λ service. is_keyless service ≡ true)

abbrev pub RunIsOffStack : World → ℕ → Type 0
RunIsOffStack start n = (k : ℕ) → k < n → StepIsOffStack (world_at (bytes None) start k)

-- Steps from a world with a rotated stack do the same, and leave the stack rotated by the same amount. No byte is
-- guarded, because a guard on bytes of the stack would stop a push depending on S.
abbrev pub RunsAlikeOnRotatedStack : Type 0
RunsAlikeOnRotatedStack =
    (turn : ℕ) (world other : World) (n : ℕ) → IsRotated turn world other
    → ((k : ℕ) → k < n → stuck (bytes None) (world_at (bytes None) world k) ≡ None) → RunIsOffStack world n
    → ((k : ℕ) → k < n → stuck (bytes None) (world_at (bytes None) other k) ≡ None)
    × IsRotated turn (world_at (bytes None) world n) (world_at (bytes None) other n)

-- if a run uses the stack only through S, so does a run from a world that agrees in everything the first one uses
abbrev pub RunsOffStackAlike : Type 0
RunsOffStackAlike =
    (parts : Part → Bool) (known : ℕ → Bool) (s t : World) (n : ℕ) → Near parts (AgreeOn known) s t
    → RunReads (bytes None) known s n → RunNeeds (bytes None) parts s n
    → RunIsOffStack s n → RunIsOffStack t n
