-- The routines that a run has entered and not left. This project's profile.
use Rattle.std.specs.Prelude.{ℕ, ◌<◌, ◌≤◌, List, length, Option, Some, None}
use Rattle.a2_routines.specs.declared.routines.Entry.{Entry}
use Rattle.a2_routines.specs.Routines as along
use Rattle.a2_history.specs.Courses.{Course, world_on}

-- the routines entered before a position and not left, the outermost first
abbrev pub entered : Course → ℕ → List Entry
entered course n = along.entered (world_on course) n

-- the latest position before an end with at most this many routines entered
abbrev pub IsNewestOutside : Course → ℕ → ℕ → Option ℕ → Type 0
IsNewestOutside course most end None = (k : ℕ) → k < end → most < length (entered course k)
IsNewestOutside course most end (Some p) =
    (p < end) × (length (entered course p) ≤ most) × ((k : ℕ) → p < k → k < end → most < length (entered course k))
