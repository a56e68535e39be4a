-- An instruction reads the same addresses on a board and on its memory, because the two have the same bytes in page 0.
use Rattle.std.specs.Prelude.{◌≡◌, ℕ, ◌+◌, ◌*◌, ◌%◌, ◌++◌, length, refl}
use Rattle.std.proofs.Common.{ap, ap₂}
use Rattle.a2_opcode.specs.declared.Mode.{Mode}
use Rattle.a2_opcode.specs.declared.Mode.TheVariants.{IndexedIndirect, IndirectIndexed}
use Rattle.a2_bus.specs.BusState.{BusState, board_access}
use Rattle.a2_bus.specs.Memory.{memory_access, ram_end}
use Rattle.a2_bus.specs.View.{memory_of}
use Rattle.a2_bus.proofs.Holding.{each_board_acts_as_its_memory}
use Rattle.a2_effect.specs.Effect.{effect_of}
use Rattle.a2_effect.specs.Place.{address, place_of, zero_page_word}
use Rattle.a2_effect.specs.Registers.{Registers}
use Rattle.a2_footprint.specs.InstructionReads.{effect_reads, pointer_reads, reads_of}
use Rattle.a2_footprint.specs.Boards.{BoardsReadAsTheirMemory}

same_word : (bus : BusState) → length bus.bytes ≡ ram_end → (at : ℕ)
    → zero_page_word board_access bus at ≡ zero_page_word memory_access (memory_of bus) at
same_word bus size at =
    let law = each_board_acts_as_its_memory bus size in
    ap₂ (λ low high. low + 256 * high) (law.same_byte at) (law.same_byte ((at + 1) % 256))

pub same_place : (bus : BusState) → length bus.bytes ≡ ram_end → (registers : Registers) (mode : Mode) (value : ℕ)
    → place_of board_access bus registers mode value ≡ place_of memory_access (memory_of bus) registers mode value
same_place bus size registers IndexedIndirect value =
    ap (λ word. address word) (same_word bus size ((value + registers.x) % 256))
same_place bus size registers IndirectIndexed value =
    ap (λ word. address ((word + registers.y) % 65536)) (same_word bus size value)
same_place bus size registers mode value = refl

pub boards : BoardsReadAsTheirMemory
unfolding reads_of
boards row value state size =
    ap (λ place. pointer_reads row.mode value state.registers ++ effect_reads (effect_of row.mnemonic) place state.registers.s)
    (same_place state.memory size state.registers row.mode value)
