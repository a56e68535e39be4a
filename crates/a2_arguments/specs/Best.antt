-- The nearest of the names so far. No public clause cites this file.
use Rattle.std.specs.Prelude.{ℕ, List, Option, Some, nat_lt, if◌then◌else◌}
use Rattle.std.specs.Option.{option_copied}
use Rattle.a2_arguments.specs.Nearest.{edits}
use Rattle.a2_arguments.specs.declared.nearness.Best.{Best as DeclaredBest}

-- the nearest name, if any was near, and the distance below which a nearer one is
pub record Best : Type 0 where
  pub found : Option (List ℕ)
  pub bound : ℕ

abbrev pub best_of : DeclaredBest → Best
best_of nearest = record { found = option_copied nearest.found; bound = nearest.bound }

-- the nearer of a name and what was found before it
abbrev pub nearer : List ℕ → Best → List ℕ → Best
nearer name best known = if nat_lt (edits name known) best.bound then record { found = Some known; bound = edits name known } else best
