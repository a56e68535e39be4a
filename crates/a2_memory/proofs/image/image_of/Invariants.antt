use Rattle.std.proofs.Common.{◌≡◌, ◌<◌, ◌≤◌, ℕ, None}
use Rattle.a2_bus.specs.Memory.{peek}
use Rattle.a2_bus.specs.View.{memory_of}
use Rattle.a2_hex.specs.Images.{held}
use Rattle.a2_memory.proofs.image.image_of.Given as goal

-- the bytes below the address are the machine's, and there are no others
abbrev pub invariant-loop-address : goal.invariant-loop-address
invariant-loop-address g l = record {
  below : (a : ℕ) → a < l.address → held l.image a ≡ peek (memory_of l.machine.state.bus) a;
  above : (a : ℕ) → l.address ≤ a → held l.image a ≡ None;
}
