-- The lines that were given before, the oldest first. This project's profile.
use Rattle.std.specs.Prelude.{ℕ, ◌-◌, ◌==◌, nat_le, List, [], ◌∷◌, ◌++◌, length, slice_index_or, if◌then◌else◌}
use Rattle.circular_buffer.specs.Buffer.{keep_last}

-- a line that is not empty is added to the others, and the last 100 are kept
abbrev pub noted : List ℕ → List (List ℕ) → List (List ℕ)
noted line lines = if length line == 0 then lines else keep_last 100 (lines ++ line ∷ [])

-- the line that was given this many lines ago, 1 for the last; an empty line if there are not so many
abbrev pub aged : ℕ → List (List ℕ) → List ℕ
aged age lines = if nat_le age (length lines) then slice_index_or lines (length lines - age) [] else []
