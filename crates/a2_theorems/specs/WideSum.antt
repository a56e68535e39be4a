-- A 16-bit addition: the word at $0A becomes the sum of the words at $06 and $08.
use Rattle.std.specs.Prelude.{◌≡◌, ◌+◌, ◌%◌, nat_le, List, [], ◌∷◌}
use Rattle.a2_text.specs.Bytes.{is_among}
use Rattle.a2_opcode.specs.declared.Instr.{Instr}
use Rattle.a2_opcode.specs.declared.Mnemonic.TheVariants.{Clc, Lda, Adc, Sta, Rts}
use Rattle.a2_opcode.specs.declared.Mode.TheVariants.{Implied, ZeroPage}
use Rattle.a2_bus.specs.Memory.{Memory}
use Rattle.a2_services.specs.World.{World}
use Rattle.a2_theorems.specs.Routines.{op, HasBytes, Returns, Does, Keeps, word}

abbrev pub wide_sum : List Instr
wide_sum =
    op Clc Implied 0
    ∷ op Lda ZeroPage 0x06 ∷ op Adc ZeroPage 0x08 ∷ op Sta ZeroPage 0x0A
    ∷ op Lda ZeroPage 0x07 ∷ op Adc ZeroPage 0x09 ∷ op Sta ZeroPage 0x0B
    ∷ op Rts Implied 0 ∷ []

-- the sum is modulo 65,536, and C is its carry
pub record AddsWords (memory : Memory) (last : World) : Type 0 where
  pub sum : word last.memory 0x0A ≡ (word memory 0x06 + word memory 0x08) % 65536
  pub carry : last.registers.flags.c ≡ nat_le 65536 (word memory 0x06 + word memory 0x08)
  pub rest : Keeps memory (is_among (0x0A ∷ 0x0B ∷ [])) last

-- for any two words, after 8 steps and 26 cycles
abbrev pub WideSumAdds : Type 0
WideSumAdds = (memory : Memory) → HasBytes memory → Returns memory → Does 0x300 wide_sum memory 8 26 (AddsWords memory)
