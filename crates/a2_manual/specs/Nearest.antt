-- The name in a manual that is nearest to another name. This project's profile.
use Rattle.std.specs.Prelude.{◌≡◌, ℕ, ◌<◌, ◌≤◌, List, ◌∷◌, ◌++◌, length, map, nat_eq, All}
use Rattle.std.specs.List.{flat_map}
use Rattle.std.specs.Char.{to_ascii_uppercase}
use Rattle.strsim.specs.Edits.{levenshtein_row}
use Rattle.a2_manual.specs.Topics.{topics, names}

-- the names in a manual, in their order
abbrev pub all_names : List ℕ → List (List ℕ)
all_names manual = flat_map names (topics manual)

-- how many bytes are inserted, left out or changed between a name in capitals and a known name
abbrev pub edits : List ℕ → List ℕ → ℕ
edits capitals known = levenshtein_row nat_eq capitals known (length known)

-- the same for a name in either case, whose small letters count as capitals
abbrev pub distance : List ℕ → List ℕ → ℕ
distance name known = edits (map to_ascii_uppercase name) known

-- the first of those names that are nearest to a name
pub record IsNearest (name : List ℕ) (names : List (List ℕ)) (found : List ℕ) : Type 0 where
  pub front : List (List ℕ)
  pub following : List (List ℕ)
  pub names_are : names ≡ front ++ found ∷ following
  pub none_nearer : All (λ other. distance name found ≤ distance name other) names
  pub none_before : All (λ other. distance name found < distance name other) front
