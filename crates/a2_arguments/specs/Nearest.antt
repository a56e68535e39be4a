-- The name that may be meant by another. This project's profile.
use Rattle.std.specs.Prelude.{◌≡◌, ◌<◌, ◌≤◌, ℕ, List, ◌∷◌, ◌++◌, length, nat_eq, All}
use Rattle.std.specs.Str.{chars}
use Rattle.strsim.specs.Edits.{levenshtein_row}

-- how many characters have to be put in, left out or changed to come from one name to another
abbrev pub edits : List ℕ → List ℕ → ℕ
edits name known = levenshtein_row nat_eq (chars name) (chars known) (length (chars known))

-- the first of the names that are nearest to a name
pub record IsNearest (name : List ℕ) (names : List (List ℕ)) (found : List ℕ) : Type 0 where
  pub before : List (List ℕ)
  pub after : List (List ℕ)
  pub names_are : names ≡ before ++ found ∷ after
  pub none_nearer : All (λ other. edits name found ≤ edits name other) names
  pub none_before : All (λ other. edits name found < edits name other) before
