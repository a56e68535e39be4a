-- Bytes of one digit or two.
use Rattle.std.proofs.Common.{◌≡◌, ℕ, ◌<◌, List, [], ◌∷◌, Some, arith}
use Rattle.std.proofs.lemmas.Bool.Decides.{nat_tests}
use Rattle.a2_hex.specs.ObjectLines.{byte_of}

-- a byte is below 256
pub byte_of_small : (digits : List ℕ) (n : ℕ) → byte_of digits ≡ Some n → n < 256
unfolding byte_of
byte_of_small [] n h = grind (arith, nat_tests)
byte_of_small (a ∷ []) n h = grind (arith, nat_tests)
byte_of_small (a ∷ b ∷ []) n h = grind (arith, nat_tests)
byte_of_small (a ∷ b ∷ c ∷ digits) n h = grind (arith, nat_tests)
