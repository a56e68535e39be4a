-- The digit-by-digit results of the machine's byte operations are bytes.
use Rattle.std.specs.Prelude.{◌<◌, ◌≤◌, ℕ, zero, suc, ◌*◌, ◌/◌, ◌%◌, ◌==◌, Bool, true, false}
use Rattle.std.proofs.Common.{arith}
use Rattle.a2_effect.specs.Arithmetic.{by_digits}
use Rattle.a2_effect.specs.Registers.{one_if}

pub bit_small : (b : Bool) → one_if b ≤ 1
bit_small true = omega arith
bit_small false = omega arith

abbrev power : ℕ → ℕ
power zero = 1
power (suc p) = 2 * power p

digits : (p : ℕ) (digit : Bool → Bool → Bool) (m n : ℕ) → by_digits p digit m n < power p
digits zero digit m n = omega arith
digits (suc p) digit m n =
    let one = bit_small (digit (m % 2 == 1) (n % 2 == 1)) in
    let more = digits p digit (m / 2) (n / 2) in
    omega (arith, one, more)

pub digits_small : (digit : Bool → Bool → Bool) (m n : ℕ) → by_digits 8 digit m n < 256
digits_small digit m n = digits 8 digit m n
