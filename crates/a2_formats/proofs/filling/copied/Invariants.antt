use Rattle.std.proofs.Common.{◌≡◌, ◌<◌, ◌≤◌, ℕ, None}
use Rattle.a2_hex.specs.Images.{held}
use Rattle.a2_formats.proofs.filling.copied.Given as goal

abbrev pub invariant-loop-address : goal.invariant-loop-address
invariant-loop-address l = record {
  before : (a : ℕ) → a < l.address → held l.copy a ≡ held l.image a;
  ahead : (a : ℕ) → l.address ≤ a → held l.copy a ≡ None;
}
