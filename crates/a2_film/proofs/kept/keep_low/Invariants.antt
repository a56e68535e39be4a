use Rattle.std.proofs.Common.{◌≡◌, ℕ, ◌<◌, ◌≤◌, slice_index}
use Rattle.a2_bus.specs.Memory.{ram_byte}
use Rattle.a2_bus.specs.View.{memory_of}
use Rattle.a2_film.proofs.kept.keep_low.Given as goal

-- the bytes below an address are copied
abbrev pub invariant-loop-address : goal.invariant-loop-address
invariant-loop-address g l = (a : ℕ) → 0x24 ≤ a → a < l.address → slice_index l.ram a ≡ ram_byte (memory_of l.machine.state.bus) a
