-- A board that equals another except for some bytes. This project's own.
use Rattle.std.specs.Prelude.{◌≡◌, ℕ, Bool, false, length, slice_index}
use Rattle.a2_bus.specs.BusState.{BusState}

-- a board equals another, except for the bytes at these addresses
pub record IsEqualExcept (there : ℕ → Bool) (board other : BusState) : Type 0 where
  pub size : length board.bytes ≡ length other.bytes
  pub bytes : (a : ℕ) → there a ≡ false → slice_index board.bytes a ≡ slice_index other.bytes a
  pub devices : board.devices ≡ other.devices
