use Rattle.std.proofs.Common.{◌≡◌, ◌<◌, ℕ}
use Rattle.a2_hex.specs.Images.{held}
use Rattle.a2_monitor_listing.proofs.same.are_same.Given as goal

-- the images hold the same bytes below the address
abbrev pub invariant-loop-address : goal.invariant-loop-address
invariant-loop-address g l = (a : ℕ) → a < l.address → held l.image a ≡ held l.other a
