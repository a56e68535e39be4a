use Rattle.std.proofs.Common.{◌≡◌, ◌<◌, ◌≤◌, ℕ, length, slice_index, unwrap_or}
use Rattle.a2_hex.specs.Images.{held, ram_end}
use Rattle.a2_hex.proofs.image.Image.overlay.Given as goal

abbrev pub invariant-loop-address : goal.invariant-loop-address
invariant-loop-address g l = record {
  size : length l.ram ≡ ram_end;
  following : (a : ℕ) → a < l.address → slice_index l.ram a ≡ unwrap_or (held l.self a) (slice_index l.fn.ram a);
  ahead : (a : ℕ) → l.address ≤ a → slice_index l.ram a ≡ slice_index l.fn.ram a;
}
