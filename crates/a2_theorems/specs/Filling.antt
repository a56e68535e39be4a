-- Cells filled through (zp),Y: $06 and $07 hold the first address, $08 the count, and $09 the byte to store.
use Rattle.std.specs.Prelude.{◌≡◌, ◌<◌, ◌≤◌, ℕ, ◌+◌, ◌*◌, ◌&&◌, nat_le, nat_lt, List, [], ◌∷◌}
use Rattle.a2_opcode.specs.declared.Instr.{Instr}
use Rattle.a2_opcode.specs.declared.Mnemonic.TheVariants.{Beq, Dey, Jmp, Lda, Ldy, Rts, Sta}
use Rattle.a2_opcode.specs.declared.Mode.TheVariants.{Absolute, Implied, IndirectIndexed, Relative, ZeroPage}
use Rattle.a2_bus.specs.Memory.{Memory, ram_byte, ram_end}
use Rattle.a2_services.specs.World.{World}
use Rattle.a2_theorems.specs.Routines.{op, HasBytes, Returns, Does, Keeps, word}

abbrev pub filling : List Instr
filling =
    op Lda ZeroPage 0x09 ∷ op Ldy ZeroPage 0x08
    -- the loop, at $304; it exits to $30C
    ∷ op Beq Relative 0x30C
    ∷ op Dey Implied 0 ∷ op Sta IndirectIndexed 0x06 ∷ op Jmp Absolute 0x304
    ∷ op Rts Implied 0 ∷ []

pub record FillsRange (memory : Memory) (last : World) : Type 0 where
  pub filled : (i : ℕ) → i < ram_byte memory 0x08 → ram_byte last.memory (word memory 0x06 + i) ≡ ram_byte memory 0x09
  pub rest : Keeps memory (λ a. nat_le (word memory 0x06) a && nat_lt a (word memory 0x06 + ram_byte memory 0x08)) last

-- for any count and byte, if the cells are in RAM above the text pages, after 4 steps and 13 cycles for each cell, plus
-- 4 steps and 15 cycles
abbrev pub FillingFills : Type 0
FillingFills =
    (memory : Memory) → HasBytes memory → Returns memory → 0xC00 ≤ word memory 0x06 → word memory 0x06 + ram_byte memory 0x08 ≤ ram_end
    → Does 0x300 filling memory (ram_byte memory 0x08 * 4 + 4) (ram_byte memory 0x08 * 13 + 15) (FillsRange memory)
