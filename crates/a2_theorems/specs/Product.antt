-- A byte times a byte: the 16-bit word at $08 becomes the product of the bytes at $06 and $07, by repeated addition.
use Rattle.std.specs.Prelude.{◌≡◌, ◌+◌, ◌*◌, List, [], ◌∷◌}
use Rattle.a2_text.specs.Bytes.{is_among}
use Rattle.a2_opcode.specs.declared.Instr.{Instr}
use Rattle.a2_opcode.specs.declared.Mnemonic.TheVariants.{Adc, Beq, Clc, Dex, Jmp, Lda, Ldx, Rts, Sta}
use Rattle.a2_opcode.specs.declared.Mode.TheVariants.{Absolute, Implied, Immediate, Relative, ZeroPage}
use Rattle.a2_bus.specs.Memory.{Memory, ram_byte}
use Rattle.a2_services.specs.World.{World}
use Rattle.a2_theorems.specs.Routines.{op, HasBytes, Returns, Does, Keeps, word}

abbrev pub product : List Instr
product =
    op Lda Immediate 0 ∷ op Sta ZeroPage 0x08 ∷ op Sta ZeroPage 0x09 ∷ op Ldx ZeroPage 0x06
    -- the loop, at $308; it exits to $31B
    ∷ op Beq Relative 0x31B
    ∷ op Clc Implied 0 ∷ op Lda ZeroPage 0x08 ∷ op Adc ZeroPage 0x07 ∷ op Sta ZeroPage 0x08
    ∷ op Lda ZeroPage 0x09 ∷ op Adc Immediate 0 ∷ op Sta ZeroPage 0x09
    ∷ op Dex Implied 0 ∷ op Jmp Absolute 0x308
    ∷ op Rts Implied 0 ∷ []

pub record Multiplies (memory : Memory) (last : World) : Type 0 where
  pub product : word last.memory 0x08 ≡ ram_byte memory 0x06 * ram_byte memory 0x07
  pub rest : Keeps memory (is_among (0x08 ∷ 0x09 ∷ [])) last

-- for any two bytes, after 10 steps and 26 cycles for each unit of the first, plus 6 steps and 20 cycles
abbrev pub ProductMultiplies : Type 0
ProductMultiplies =
    (memory : Memory) → HasBytes memory → Returns memory
    → Does 0x300 product memory (ram_byte memory 0x06 * 10 + 6) (ram_byte memory 0x06 * 26 + 20) (Multiplies memory)
