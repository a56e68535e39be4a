-- Two bytes exchanged.
use Rattle.std.specs.Prelude.{◌≡◌, List, [], ◌∷◌}
use Rattle.a2_text.specs.Bytes.{is_among}
use Rattle.a2_opcode.specs.declared.Instr.{Instr}
use Rattle.a2_opcode.specs.declared.Mnemonic.TheVariants.{Lda, Ldx, Rts, Sta, Stx}
use Rattle.a2_opcode.specs.declared.Mode.TheVariants.{Implied, ZeroPage}
use Rattle.a2_bus.specs.Memory.{Memory, ram_byte}
use Rattle.a2_services.specs.World.{World}
use Rattle.a2_theorems.specs.Routines.{op, Returns, Does, Keeps}

abbrev pub swap : List Instr
swap = op Lda ZeroPage 0x06 ∷ op Ldx ZeroPage 0x07 ∷ op Stx ZeroPage 0x06 ∷ op Sta ZeroPage 0x07 ∷ op Rts Implied 0 ∷ []

pub record Swaps (memory : Memory) (last : World) : Type 0 where
  pub first : ram_byte last.memory 0x06 ≡ ram_byte memory 0x07
  pub second : ram_byte last.memory 0x07 ≡ ram_byte memory 0x06
  pub rest : Keeps memory (is_among (0x06 ∷ 0x07 ∷ [])) last

-- for any two bytes, after 5 steps and 18 cycles
abbrev pub SwapSwaps : Type 0
SwapSwaps = (memory : Memory) → Returns memory → Does 0x300 swap memory 5 18 (Swaps memory)
