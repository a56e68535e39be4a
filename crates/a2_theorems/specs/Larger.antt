-- The larger of two bytes: $08 becomes the larger of the bytes at $06 and $07.
use Rattle.std.specs.Prelude.{◌≡◌, ℕ, nat_le, if◌then◌else◌, List, [], ◌∷◌}
use Rattle.a2_text.specs.Bytes.{is_among}
use Rattle.a2_opcode.specs.declared.Instr.{Instr}
use Rattle.a2_opcode.specs.declared.Mnemonic.TheVariants.{Bcs, Cmp, Lda, Rts, Sta}
use Rattle.a2_opcode.specs.declared.Mode.TheVariants.{Implied, Relative, ZeroPage}
use Rattle.a2_bus.specs.Memory.{Memory, ram_byte}
use Rattle.a2_services.specs.World.{World}
use Rattle.a2_theorems.specs.Routines.{op, Returns, Does, Keeps}

abbrev pub larger : List Instr
larger =
    op Lda ZeroPage 0x06 ∷ op Cmp ZeroPage 0x07 ∷ op Bcs Relative 0x308 ∷ op Lda ZeroPage 0x07
    -- at $308
    ∷ op Sta ZeroPage 0x08 ∷ op Rts Implied 0 ∷ []

-- one number if the first byte is at least as large as the second, and otherwise another
abbrev pub choice : Memory → (m n : ℕ) → ℕ
choice memory m n = if nat_le (ram_byte memory 0x07) (ram_byte memory 0x06) then m else n

pub record Takes (memory : Memory) (last : World) : Type 0 where
  pub taken : ram_byte last.memory 0x08 ≡ choice memory (ram_byte memory 0x06) (ram_byte memory 0x07)
  pub rest : Keeps memory (is_among (0x08 ∷ [])) last

-- for any two bytes, after 5 steps and 18 cycles if the first is taken, and otherwise after 6 steps and 20 cycles
abbrev pub LargerTakes : Type 0
LargerTakes =
    (memory : Memory) → Returns memory → Does 0x300 larger memory (choice memory 5 6) (choice memory 18 20) (Takes memory)
