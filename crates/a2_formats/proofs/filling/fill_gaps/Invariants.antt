use Rattle.std.proofs.Common.{◌≡◌, ℕ, Some, ◌⊎◌}
use Rattle.a2_hex.specs.Images.{held}
use Rattle.a2_formats.proofs.filling.fill_gaps.Given as goal

abbrev pub invariant-loop-address : goal.invariant-loop-address
invariant-loop-address l = record {
  kept : (a byte : ℕ) → held l.fn.image a ≡ Some byte → held l.image a ≡ Some byte;
  filled : (a byte : ℕ) → held l.image a ≡ Some byte → (held l.fn.image a ≡ Some byte) ⊎ (byte ≡ l.fill);
}
