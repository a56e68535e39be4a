-- Which checkpoints of a run are kept. This project's profile.
use Rattle.std.specs.Prelude.{◌≡◌, ℕ, zero, suc, ◌+◌, ◌-◌, ◌*◌, ◌/◌, ◌^◌, ◌<◌, ◌≤◌, min}

-- the steps from one checkpoint of a level to the next
abbrev pub spacing : ℕ → ℕ
spacing level = 1024 * 2 ^ level

-- the checkpoint at a position is kept when a run has reached `now`: on some level it is among the latest, as many as
-- the width
pub record IsKept (width now position : ℕ) : Type 0 where
  pub level : ℕ
  pub number : ℕ
  pub multiple : position ≡ number * spacing level
  pub newest : now - position < width * spacing level

-- the largest number kept of some places: on the lowest level every second one of the latest, and on the other levels
-- as many as for half the places
unfoldable pub most_of : ℕ → ℕ → ℕ → ℕ
most_of zero width places = 0
most_of (suc levels) width places = min ((width + 1) / 2) ((places + 1) / 2) + most_of levels width (places / 2)

-- the largest number kept, on all levels that a 64-bit position can have
abbrev pub most_kept : ℕ → ℕ → ℕ
most_kept width now = most_of 54 width (now / 1024)

-- the largest width, up to 101, that keeps at most the given number of checkpoints
pub record IsWidth (most now width : ℕ) : Type 0 where
  pub few : most_kept width now ≤ most
  pub within : width ≤ 101
  pub widest : (wider : ℕ) → width < wider → wider ≤ 101 → most < most_kept wider now
