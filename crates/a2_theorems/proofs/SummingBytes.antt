use Rattle.std.specs.Prelude.{◌≡◌, ◌<◌, ℕ, ◌+◌, ◌*◌, ◌/◌, ◌%◌, [], ◌∷◌, true, false, refl}
use Rattle.std.proofs.Common.{arith}
use Rattle.a2_text.specs.Bytes.{is_among}
use Rattle.a2_bus.specs.Memory.{ram_byte}
use Rattle.a2_services.specs.World.{World}
use Rattle.a2_machine.specs.Meaning.{Code}
use Rattle.a2_machine.proofs.Computing.{computing}
use Rattle.a2_theorems.specs.Routines.{routine, entered, Keeps}
use Rattle.a2_theorems.specs.ByteSum.{byte_sum, changes, SumsBytes, ByteSumSums}
use Rattle.a2_theorems.proofs.Returning.{does, finishes, home_on}
use Rattle.a2_theorems.proofs.Keeping.{kept, keeps_all, keeps_same}
use Rattle.a2_theorems.proofs.Carrying.{carried}
use Rattle.a2_theorems.proofs.Branching.{C, branching}
use Rattle.a2_theorems.proofs.Places.{put}
use Rattle.a2_theorems.proofs.Calling.{Subroutine, calls, keeps_call}

abbrev code : Code
code = routine 0x300 byte_sum

-- the subroutine is entered with x in A, and the bytes y and h of the word
abbrev Operands : (x y h : ℕ) → World → Type 0
Operands x y h w = (w.registers.a ≡ x) × (ram_byte w.memory 0x09 ≡ y) × (ram_byte w.memory 0x0A ≡ h)

record Added (x y h : ℕ) (entered w : World) : Type 0 where
  low : ram_byte w.memory 0x09 ≡ (x + y) % 256
  high : ram_byte w.memory 0x0A ≡ h + (x + y) / 256
  cycles : w.cycles ≡ entered.cycles + 17 + (x + y) / 256 * 4
  rest : Keeps entered.memory (is_among (0x09 ∷ 0x0A ∷ [])) w

adds : (x y h : ℕ) → x < 256 → y < 256 → h < 255 → Subroutine code 0x313 0xFB (5 + (x + y) / 256) (Operands x y h) (Added x y h)
unfolding computing
adds x y h lx ly lh from z (a, low, high) =
    branching code C (put 0x313 0xFB z from) _ 3 _ _ refl
    (λ set. let one : (x + y) / 256 ≡ 1 = carried _ _ x y a low lx ly true set in (
      3,
      omega (arith, one),
      (
        _,
        refl,
        (
          (refl, refl, refl),
          record {
            low = omega (arith, a, low);
            high = omega (arith, high, one, lh);
            cycles = omega (arith, one);
            rest = kept ((0x09, _) ∷ (0x0A, _) ∷ []) from.memory _ _ refl refl;
          },
        ),
      ),
    ))
    (λ clear. let none : (x + y) / 256 ≡ 0 = carried _ _ x y a low lx ly false clear in (
      2,
      omega (arith, none),
      (
        _,
        refl,
        (
          (refl, refl, refl),
          record {
            low = omega (arith, a, low);
            high = omega (arith, high, none);
            cycles = omega (arith, none);
            rest = kept ((0x09, _) ∷ []) from.memory _ _ refl refl;
          },
        ),
      ),
    ))

pub byte_sum_sums : ByteSumSums
unfolding computing
byte_sum_sums memory bytes stack =
    does 0x300 byte_sum memory _ _ (SumsBytes memory)
    (calls code 0x313 0xFB _ _ _ (adds y x 0 (bytes 0x07) (bytes 0x06) (omega arith)) (entered 0x300 memory) _
    0x30D 6 (8 + (t + (y + x) % 256) / 256) _ _ (omega arith) refl (refl, refl, refl, refl) refl (refl, refl, refl)
    (λ v z first. calls code 0x313 0xFB _ _ _ (adds t ((y + x) % 256) (0 + (y + x) / 256) (bytes 0x08) (omega arith) few)
    (put 0x30D 0xFD z v) _ 0x312 2 1 _ _ (omega arith) refl (refl, refl, refl, refl) refl (first.rest.bytes 0x08 refl, first.low, first.high)
    (λ u z second.
    let rest : Keeps memory changes u =
    keeps_call ((0x1FD, _) ∷ (0x1FC, _) ∷ []) (0x09 ∷ 0x0A ∷ []) memory _ _ v u second.rest refl refl refl
    (keeps_call ((0x0A, _) ∷ (0x09, _) ∷ (0x1FD, _) ∷ (0x1FC, _) ∷ []) (0x09 ∷ 0x0A ∷ []) memory _ _ (entered 0x300 memory) v
    first.rest refl refl refl (keeps_all 0x300 memory _)) in
    finishes code (put 0x312 0xFD z u) _ 1 _ _ refl (home_on memory _ u rest refl refl stack)
    (let a = first.cycles in let b = second.cycles in omega (arith, a, b))
    (record { sum = let a = second.low in let b = second.high in omega (arith, a, b); rest = keeps_same memory _ u _ refl rest }))))
  where
    x : ℕ
    x = ram_byte memory 0x06

    y : ℕ
    y = ram_byte memory 0x07

    t : ℕ
    t = ram_byte memory 0x08

    few : 0 + (y + x) / 256 < 255
    few = let a = bytes 0x06 in let b = bytes 0x07 in omega (arith, a, b)
