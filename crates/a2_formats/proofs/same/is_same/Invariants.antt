use Rattle.std.proofs.Common.{◌≡◌, ◌<◌, ℕ}
use Rattle.a2_hex.specs.Images.{held}
use Rattle.a2_formats.proofs.same.is_same.Given as goal

abbrev pub invariant-loop-address : goal.invariant-loop-address
invariant-loop-address l = (a : ℕ) → a < l.address → held l.left a ≡ held l.right a
