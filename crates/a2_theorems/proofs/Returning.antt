-- The effect of a routine, derived from a walk that its RTS ends.
use Rattle.std.specs.Prelude.{◌≡◌, ℕ, ◌+◌, ◌*◌, ◌%◌, Bool, false, List, Some}
use Rattle.std.proofs.Common.{ap₂, ◌∙◌}
use Rattle.a2_opcode.specs.declared.Instr.{Instr}
use Rattle.a2_bus.specs.Memory.{Memory, ram_byte}
use Rattle.a2_services.specs.World.{World}
use Rattle.a2_machine.specs.declared.causes.Cause.TheVariants.{Returned}
use Rattle.a2_machine.specs.Meaning.{Code, IsEnd}
use Rattle.a2_machine.proofs.Walks.{walked, Leads, to_end}
use Rattle.a2_machine.proofs.Computing.{returns_there}
use Rattle.a2_theorems.specs.Routines.{routine, entered, Returns, Does, Keeps}

-- the last two bytes of the stack make an RTS return to $FF69
pub home : (memory : Memory) → Returns memory → (ram_byte memory 0x1FE + 256 * ram_byte memory 0x1FF + 1) % 65536 ≡ 0xFF69
home memory stack = ap₂ (λ l h. (l + 256 * h + 1) % 65536) stack.0 stack.1

-- this also holds if the two bytes are unchanged
pub home_on : (memory : Memory) (changed : ℕ → Bool) (w : World) → Keeps memory changed w → changed 0x1FE ≡ false → changed 0x1FF ≡ false
    → Returns memory → (ram_byte w.memory 0x1FE + 256 * ram_byte w.memory 0x1FF + 1) % 65536 ≡ 0xFF69
home_on memory changed w keeps low high stack = home w.memory (keeps.bytes 0x1FE low ∙ stack.0, keeps.bytes 0x1FF high ∙ stack.1)

-- the end of a walk, and what is stated about it, as the end of a routine
abbrev Ends : (cycles : ℕ) → (World → Type 0) → World → Type 0
Ends cycles Q v = (v.registers.pc ≡ 0xFF69) × (v.cycles ≡ cycles) × Q v

-- a walk to $FF69 is the effect of the routine
pub does : (org : ℕ) (listing : List Instr) (memory : Memory) (steps cycles : ℕ) (Q : World → Type 0)
    → Leads (routine org listing) (entered org memory) steps (λ v. (v.registers.pc ≡ 0xFF69) × (v.cycles ≡ cycles) × Q v)
    → Does org listing memory steps cycles Q
does org listing memory steps cycles Q leads limit within =
    go (to_end code (entered org memory) steps limit Returned (Ends cycles Q) leads (λ v h. returns_there code v h.0) within)
  where
    code : Code
    code = routine org listing

    Stops : World → Type 0
    Stops v = IsEnd code (entered org memory) limit (record { world = v; steps = steps; cause = Returned })

    go : (v : World) × Stops v × Ends cycles Q v → (v : World) × Stops v × (v.cycles ≡ cycles) × Q v
    go (v, is, h) = (v, is, h.1, h.2)

-- the last part of a routine: the walk, its last world, its cycles, and what holds there
pub finishes : (code : Code) (w last : World) (n cycles : ℕ) (Q : World → Type 0) → walked code w n ≡ Some last → last.registers.pc ≡ 0xFF69
    → last.cycles ≡ cycles → Q last → Leads code w n (λ v. (v.registers.pc ≡ 0xFF69) × (v.cycles ≡ cycles) × Q v)
finishes code w last n cycles Q walk at spent holds = (last, walk, (at, spent, holds))

-- a routine without a loop: the walk, its last world, its cycles, and what holds there
pub straight : (org : ℕ) (listing : List Instr) (memory : Memory) (steps cycles : ℕ) (Q : World → Type 0) (last : World)
    → walked (routine org listing) (entered org memory) steps ≡ Some last → last.registers.pc ≡ 0xFF69 → last.cycles ≡ cycles → Q last
    → Does org listing memory steps cycles Q
straight org listing memory steps cycles Q last walk at spent holds =
    does org listing memory steps cycles Q (last, walk, (at, spent, holds))
