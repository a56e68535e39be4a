-- What is kept, in terms of places, which are positions counted in strides. No public clause cites this file.
use Rattle.std.specs.Prelude.{◌≡◌, ℕ, ◌-◌, ◌*◌, ◌^◌, ◌<◌}

pub record IsPlaceKept (width now place : ℕ) : Type 0 where
  pub level : ℕ
  pub number : ℕ
  pub multiple : place ≡ number * 2 ^ level
  pub newest : now - place < width * 2 ^ level
