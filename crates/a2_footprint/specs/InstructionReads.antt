-- The addresses that an instruction reads. MCS6500 Programming Manual, chapters 4 to 9.
use Rattle.std.specs.Prelude.{ℕ, ◌+◌, ◌*◌, ◌/◌, ◌%◌, List, [], ◌∷◌, ◌++◌}
use Rattle.a2_opcode.specs.declared.Mode.{Mode}
use Rattle.a2_opcode.specs.declared.Mode.TheVariants.{IndexedIndirect, IndirectIndexed}
use Rattle.a2_opcode.specs.declared.Row.{Row}
use Rattle.a2_bus.specs.Access.{Access}
use Rattle.a2_effect.specs.Registers.{Registers}
use Rattle.a2_effect.specs.Place.{Place, address, pointer, place_of}
use Rattle.a2_effect.specs.Effect.{Effect, takes, replaces, pulls, jumps, returns, returns_from_interrupt, effect_of}
use Rattle.a2_effect.specs.Instruction.{State}

-- the addresses in page 0 that hold the operand's address
abbrev pub pointer_reads : Mode → ℕ → Registers → List ℕ
pointer_reads IndexedIndirect value registers = (value + registers.x) % 256 ∷ ((value + registers.x) % 256 + 1) % 256 ∷ []
pointer_reads IndirectIndexed value registers = value ∷ (value + 1) % 256 ∷ []
pointer_reads _ value registers = []

-- the operand's address
abbrev pub place_reads : Place → List ℕ
place_reads (address at) = at ∷ []
place_reads _ = []

-- the two addresses of the pointer that an indirect JMP uses, both in the same page
abbrev pub jump_reads : Place → List ℕ
jump_reads (pointer at) = at ∷ (256 * (at / 256) + (at + 1) % 256) ∷ []
jump_reads _ = []

-- the address on the stack that the first, second or third pull reads
abbrev pub pull_address : ℕ → ℕ → ℕ
pull_address s count = 0x100 + (s + count) % 256

-- the addresses that an effect at a place reads, with this S
abbrev pub effect_reads : Effect → Place → ℕ → List ℕ
effect_reads (takes change) place s = place_reads place
effect_reads (replaces change) place s = place_reads place
effect_reads (pulls change) place s = pull_address s 1 ∷ []
effect_reads jumps place s = jump_reads place
effect_reads returns place s = pull_address s 1 ∷ pull_address s 2 ∷ []
effect_reads returns_from_interrupt place s = pull_address s 1 ∷ pull_address s 2 ∷ pull_address s 3 ∷ []
effect_reads _ place s = []

-- the addresses that an instruction reads, except those of its own bytes
unfoldable pub reads_of : {M : Type 0} → Access M → Row → ℕ → State M → List ℕ
reads_of access row value state =
    pointer_reads row.mode value state.registers
    ++ effect_reads (effect_of row.mnemonic) (place_of access state.memory state.registers row.mode value) state.registers.s
