-- What the results of number comparisons mean.
use Rattle.std.proofs.Common.{◌≡◌, ℕ, ◌<◌, true, arith}
use Rattle.std.specs.Prelude.{nat_eq, nat_lt}
use Rattle.std.proofs.lemmas.Bool.Decides.{nat_tests}

pub lt-from : (m n : ℕ) → nat_lt m n ≡ true → m < n
lt-from m n h = grind (arith, nat_tests, h)

pub same-key : (m n : ℕ) → nat_eq m n ≡ true → m ≡ n
same-key m n h = grind (arith, nat_tests, h)
