-- How a text is cut into lines.
use Rattle.std.specs.Prelude.{ℕ, ◌==◌, List, [], ◌∷◌, length, if◌then◌else◌}
use Rattle.std.specs.List.{slice_split}
use Rattle.std.specs.Str.Lines.{strip_carriage_return}

-- the lines made of these pieces: a final empty piece is not a line, and a carriage return at the end of a piece is
-- dropped
abbrev pub lines_of_pieces : List (List ℕ) → List (List ℕ)
lines_of_pieces [] = []
lines_of_pieces (piece ∷ []) = if length piece == 0 then [] else strip_carriage_return piece ∷ []
lines_of_pieces (piece ∷ next ∷ more) = strip_carriage_return piece ∷ lines_of_pieces (next ∷ more)

-- the lines of a text: the pieces between line feeds
abbrev pub lines : List ℕ → List (List ℕ)
lines text = lines_of_pieces (slice_split (λ c. c == 10) text)
