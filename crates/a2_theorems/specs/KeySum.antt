-- The sum of two keys, from its source text.
use Rattle.std.specs.Prelude.{◌≡◌, ℕ, ◌+◌, ◌%◌, List, [], ◌∷◌, codes}
use Rattle.std.specs.List.{concat}
use Rattle.a2_bus.specs.Memory.{ram_byte}
use Rattle.a2_services.specs.World.{World}
use Rattle.a2_run.specs.Meaning.{picture_of}
use Rattle.a2_theorems.specs.Runs.{Runs, blank_rows}

-- examples/lesson-keys.s
abbrev pub key_sum : List ℕ
key_sum = concat (
    codes "* THE SUM OF TWO KEYS IN A.\n" ∷
    codes "RDKEY   EQU     $FD0C\n" ∷
    codes "FIRST   EQU     $06\n" ∷
    codes "        JSR     RDKEY\n" ∷
    codes "        STA     FIRST\n" ∷
    codes "        JSR     RDKEY\n" ∷
    codes "        CLC\n" ∷
    codes "        ADC     FIRST\n" ∷
    codes "        RTS\n" ∷
    [])

-- A is the sum modulo 256, because bit 7, which RDKEY sets in both bytes, cancels; the other keys still wait, and the
-- screen is blank
pub record SumsKeys (a b : ℕ) (more : List ℕ) (last : World) : Type 0 where
  pub sum : last.registers.a ≡ (a + b) % 256
  pub first : ram_byte last.memory 0x06 ≡ 0x80 + a
  pub waiting : last.memory.devices.keys ≡ more
  pub screen : picture_of last.memory ≡ blank_rows 24
  pub cycles : last.cycles ≡ 48

-- for any two keys, whatever keys wait after them
abbrev pub KeySumSums : Type 0
KeySumSums = (a b : ℕ) (more : List ℕ) → Runs key_sum (a ∷ b ∷ more) 10 (SumsKeys a b more)
