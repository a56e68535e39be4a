use Rattle.std.specs.Prelude.{◌≡◌, ◌<◌, ℕ, suc, ◌+◌, ◌*◌, ◌%◌, nat_le, [], ◌∷◌, true, false, refl}
use Rattle.std.proofs.Common.{ap, ◌∙◌, arith}
use Rattle.a2_text.specs.Bytes.{is_among}
use Rattle.a2_bus.specs.Memory.{Memory, ram_byte}
use Rattle.a2_effect.specs.Registers.{one_if}
use Rattle.a2_services.specs.World.{World}
use Rattle.a2_machine.specs.Meaning.{Code}
use Rattle.a2_machine.proofs.Walks.{Leads}
use Rattle.a2_machine.proofs.Computing.{computing}
use Rattle.a2_theorems.specs.Routines.{routine, entered, HasBytes, Keeps, word}
use Rattle.a2_theorems.specs.Product.{product, Multiplies, ProductMultiplies}
use Rattle.a2_theorems.proofs.Returning.{does, finishes, home_on}
use Rattle.a2_theorems.proofs.Keeping.{kept, keeps_stores, keeps_same}
use Rattle.a2_theorems.proofs.Carrying.{byte_added, fits_word}
use Rattle.a2_theorems.proofs.Places.{ends, put}
use Rattle.a2_theorems.proofs.Counting.{ReachesTop, counting}

abbrev code : Code
code = routine 0x300 product

-- the count is in X
abbrev count : World → ℕ
count w = w.registers.x

-- k rounds are left
record Left (memory : Memory) (k : ℕ) (w : World) : Type 0 where
  low : ram_byte w.memory 0x08 < 256
  high : ram_byte w.memory 0x09 < 256
  sum : word w.memory 0x08 + k * ram_byte memory 0x07 ≡ ram_byte memory 0x06 * ram_byte memory 0x07
  rest : Keeps memory (is_among (0x08 ∷ 0x09 ∷ [])) w

-- one round adds the byte at $07
added : (memory : Memory) → HasBytes memory → (k : ℕ) (w : World) → Left memory (suc k) w → (m : ℕ) → m ≡ ram_byte memory 0x07
    → (ram_byte w.memory 0x08 + m + 0) % 256
    + 256 * ((ram_byte w.memory 0x09 + 0 + one_if (nat_le 256 (ram_byte w.memory 0x08 + m + 0))) % 256) + k * ram_byte memory 0x07
    ≡ ram_byte memory 0x06 * ram_byte memory 0x07
added memory bytes k w left m is =
    byte_added _ _ m (k * y) _ left.low left.high few
    (ap (λ p. word w.memory 0x08 + p) more ∙ left.sum) (fits_word (ram_byte memory 0x06) y (bytes 0x06) (bytes 0x07))
  where
    y : ℕ
    y = ram_byte memory 0x07

    few : m < 256
    few = let b = bytes 0x07 in omega (arith, is, b)

    more : k * y + m ≡ suc k * y
    more = ap (λ n. k * y + n) is ∙ (let e : k * y + y ≡ suc k * y = grind arith in e)

round : (memory : Memory) → HasBytes memory → (k : ℕ) (w : World) → Left memory (suc k) w → Leads code (put 0x308 0xFD false w) 10
    (λ v. ReachesTop 0x308 0xFD count ((w.registers.x + 255) % 256) (w.cycles + 26) v × Left memory k v)
unfolding computing
round memory bytes k w left =
    ends code (put 0x308 0xFD false w) _ 10 _ _ refl ((refl, refl, refl, refl), refl, cycles w.cycles) (record {
      low = omega arith;
      high = omega arith;
      sum = added memory bytes k w left _ (left.rest.bytes 0x07 refl);
      rest = keeps_stores ((0x08, _) ∷ (0x09, _) ∷ []) memory _ w _ refl refl left.rest;
    })
  where
    cycles : (c : ℕ) → c + 2 + 2 + 3 + 3 + 3 + 3 + 2 + 3 + 2 + 3 ≡ c + 26
    cycles c = omega arith

pub product_multiplies : ProductMultiplies
unfolding computing
product_multiplies memory bytes stack =
    does 0x300 product memory _ _ (Multiplies memory)
    (counting code 0x308 0xFD count (Left memory) (ram_byte memory 0x06) 11 26 _ 4 10 2 _ (entered 0x300 memory) (omega arith) (bytes 0x06)
    (ends code (entered 0x300 memory) _ 4 _ _ refl ((refl, refl, refl, refl), refl, refl) (record {
      low = omega arith;
      high = omega arith;
      sum = omega arith;
      rest = kept ((0x08, 0) ∷ (0x09, 0) ∷ []) memory _ _ refl refl;
    }))
    (λ k w few is left. round memory bytes k w left)
    (λ w cycles left. finishes code (put 0x308 0xFD true w) _ 2 _ _ refl (home_on memory _ w left.rest refl refl stack)
    (omega (arith, cycles)) (record { product = let is = left.sum in omega (arith, is); rest = keeps_same memory _ w _ refl left.rest })))
