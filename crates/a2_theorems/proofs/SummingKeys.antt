use Rattle.std.specs.Prelude.{◌≡◌, ℕ, ◌+◌, ◌%◌, ◌∷◌, Some, refl}
use Rattle.std.proofs.Common.{arith}
use Rattle.a2_machine.proofs.Computing.{computing}
use Rattle.a2_theorems.specs.KeySum.{key_sum, KeySumSums}
use Rattle.a2_theorems.proofs.TextRunProofs.{entry_of, runs}
use Rattle.a2_theorems.proofs.Reading.{reading, starting, printing}

read : entry_of key_sum ≡ Some 0x300
unfolding reading
read = refl

sum : (a b : ℕ) → (0x80 + b + (0x80 + a) + 0) % 256 ≡ (a + b) % 256
sum a b = omega arith

pub key_sum_sums : KeySumSums
unfolding computing reading starting printing
key_sum_sums a b more =
    runs key_sum (a ∷ b ∷ more) 0x300 10 _ read (_, refl, (refl, record { sum = sum a b; first = refl; waiting = refl; screen = refl; cycles = refl }))
