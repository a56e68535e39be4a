-- The nearest of the names compared so far. No public clause cites this file.
use Rattle.std.specs.Prelude.{ℕ, List, fold, Option, Some, nat_lt, if◌then◌else◌}
use Rattle.std.specs.Option.{option_copied}
use Rattle.a2_manual.specs.Nearest.{edits}
use Rattle.a2_manual.specs.declared.nearest_name.Nearest.{Nearest}

-- the nearest name, if any was near, and the distance that a nearer one must be below
pub record Best : Type 0 where
  pub found : Option (List ℕ)
  pub bound : ℕ

abbrev pub best_of : Nearest → Best
best_of nearest = record { found = option_copied nearest.found; bound = nearest.bound }

-- the nearer of a name at a distance and the nearest one before it
abbrev pub nearer : Best → List ℕ → ℕ → Best
nearer best known far = if nat_lt far best.bound then record { found = Some known; bound = far } else best

-- the nearest of these names and the nearest one before them
abbrev pub nearest_from : List ℕ → Best → List (List ℕ) → Best
nearest_from capitals best names = fold (λ best known. nearer best known (edits capitals known)) best names
