-- Three bytes summed by a subroutine: the 16-bit word at $09 becomes the sum of the bytes at $06, $07 and $08.
use Rattle.std.specs.Prelude.{◌≡◌, ℕ, ◌+◌, ◌*◌, ◌/◌, Bool, List, [], ◌∷◌}
use Rattle.a2_text.specs.Bytes.{is_among}
use Rattle.a2_opcode.specs.declared.Instr.{Instr}
use Rattle.a2_opcode.specs.declared.Mnemonic.TheVariants.{Adc, Bcc, Clc, Inc, Jsr, Lda, Rts, Sta}
use Rattle.a2_opcode.specs.declared.Mode.TheVariants.{Absolute, Immediate, Implied, Relative, ZeroPage}
use Rattle.a2_bus.specs.Memory.{Memory, ram_byte}
use Rattle.a2_services.specs.World.{World}
use Rattle.a2_theorems.specs.Routines.{op, HasBytes, Returns, Does, Keeps, word}

abbrev pub byte_sum : List Instr
byte_sum =
    op Lda Immediate 0 ∷ op Sta ZeroPage 0x0A ∷ op Lda ZeroPage 0x06 ∷ op Sta ZeroPage 0x09
    ∷ op Lda ZeroPage 0x07 ∷ op Jsr Absolute 0x313
    ∷ op Lda ZeroPage 0x08 ∷ op Jsr Absolute 0x313
    ∷ op Rts Implied 0
    -- the subroutine, at $313, adds A to the word; without a carry it branches to $31C
    ∷ op Clc Implied 0 ∷ op Adc ZeroPage 0x09 ∷ op Sta ZeroPage 0x09 ∷ op Bcc Relative 0x31C ∷ op Inc ZeroPage 0x0A
    ∷ op Rts Implied 0 ∷ []

abbrev pub sum_of : Memory → ℕ
sum_of memory = ram_byte memory 0x06 + ram_byte memory 0x07 + ram_byte memory 0x08

-- what changes: the word, and the two bytes of the stack below S, which hold the return addresses of the calls
abbrev pub changes : ℕ → Bool
changes = is_among (0x09 ∷ 0x0A ∷ 0x1FC ∷ 0x1FD ∷ [])

pub record SumsBytes (memory : Memory) (last : World) : Type 0 where
  pub sum : word last.memory 0x09 ≡ sum_of memory
  pub rest : Keeps memory changes last

-- for any three bytes, after 19 steps and 69 cycles, plus one step and 4 cycles for each carry
abbrev pub ByteSumSums : Type 0
ByteSumSums =
    (memory : Memory) → HasBytes memory → Returns memory
    → Does 0x300 byte_sum memory (19 + sum_of memory / 256) (69 + sum_of memory / 256 * 4) (SumsBytes memory)
