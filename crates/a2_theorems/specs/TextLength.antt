-- The length of a text that ends in 0: $06 and $07 hold the address of the text, and $08 becomes its length.
use Rattle.std.specs.Prelude.{◌≡◌, ◌≢◌, ◌<◌, ℕ, ◌+◌, ◌-◌, ◌*◌, ◌%◌, List, [], ◌∷◌}
use Rattle.a2_text.specs.Bytes.{is_among}
use Rattle.a2_opcode.specs.declared.Instr.{Instr}
use Rattle.a2_opcode.specs.declared.Mnemonic.TheVariants.{Beq, Iny, Jmp, Lda, Ldy, Rts, Sty}
use Rattle.a2_opcode.specs.declared.Mode.TheVariants.{Absolute, Implied, Immediate, IndirectIndexed, Relative, ZeroPage}
use Rattle.a2_bus.specs.Memory.{Memory, ram_byte, ram_end}
use Rattle.a2_services.specs.World.{World}
use Rattle.a2_theorems.specs.Routines.{op, HasBytes, Returns, Does, Keeps, word}

abbrev pub text_length : List Instr
text_length =
    op Ldy Immediate 0
    -- the loop, at $302; it exits to $30A
    ∷ op Lda IndirectIndexed 0x06 ∷ op Beq Relative 0x30A ∷ op Iny Implied 0 ∷ op Jmp Absolute 0x302
    ∷ op Sty ZeroPage 0x08 ∷ op Rts Implied 0 ∷ []

-- a text of this length begins at an address: no byte of it is 0, and the byte after it is 0
pub record IsTextAt (memory : Memory) (at length : ℕ) : Type 0 where
  pub some : (i : ℕ) → i < length → ram_byte memory (at + i) ≢ 0
  pub ends : ram_byte memory (at + length) ≡ 0

pub record Measures (memory : Memory) (length : ℕ) (last : World) : Type 0 where
  pub length_is : ram_byte last.memory 0x08 ≡ length
  pub rest : Keeps memory (is_among (0x08 ∷ [])) last

-- for any text of at most 255 bytes in RAM, after 4 steps and 12 cycles for each byte, plus 5 steps and 19 cycles, plus
-- one cycle for each byte that is read in another page than the first
abbrev pub TextLengthMeasures : Type 0
TextLengthMeasures =
    (memory : Memory) (length : ℕ) → HasBytes memory → Returns memory → length < 256 → word memory 0x06 + length < ram_end
    → IsTextAt memory (word memory 0x06) length
    → Does 0x300 text_length memory (length * 4 + 5) (length * 12 + 19 + (word memory 0x06 % 256 + length + 1 - 256)) (Measures memory length)
