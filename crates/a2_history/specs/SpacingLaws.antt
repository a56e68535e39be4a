-- Laws of which checkpoints are kept.
use Rattle.std.specs.Prelude.{◌⊎◌, ℕ, ◌+◌, ◌-◌, ◌*◌, ◌^◌, ◌<◌, ◌≤◌, List, length, All}
use Rattle.std.specs.List.{AllPairs}
use Rattle.a2_history.specs.Spacing.{IsKept, most_kept, IsWidth}

-- a checkpoint is kept at a position or before it
pub record IsBefore (width now position checkpoint : ℕ) : Type 0 where
  pub kept : IsKept width now checkpoint
  pub before : checkpoint ≤ position

-- from the checkpoint to the position there are at most 1,023 steps, or at most a certain share of those from the
-- position to the end of the run
abbrev pub EachIsNear : Type 0
EachIsNear = (width now position : ℕ) → 0 < width → position ≤ now
    → (checkpoint : ℕ) × IsBefore width now position checkpoint
    × ((position ≤ checkpoint + 1023) ⊎ ((width - 1) * (position - checkpoint) ≤ 2 * (now - position)))

abbrev pub WithinAFiftieth : Type 0
WithinAFiftieth = (most now width position : ℕ)
    → 605 ≤ most → now ≤ 100_000_000 → IsWidth most now width → position ≤ now
    → (checkpoint : ℕ) × IsBefore width now position checkpoint
    × ((position ≤ checkpoint + 1023) ⊎ (50 * (position - checkpoint) ≤ now - position))

abbrev pub DroppedIsNeverNeeded : Type 0
DroppedIsNeverNeeded = (most now width later narrower checkpoint : ℕ)
    → now ≤ later → IsWidth most now width → IsWidth most later narrower
    → IsKept narrower later checkpoint → IsKept width now checkpoint

abbrev pub NoMoreAreKept : Type 0
NoMoreAreKept = (width now : ℕ) (positions : List ℕ) → now < 2 ^ 64 → AllPairs (λ earlier later. earlier < later) positions
    → All (λ position. (0 < position) × (position ≤ now) × IsKept width now position) positions
    → length positions ≤ most_kept width now
