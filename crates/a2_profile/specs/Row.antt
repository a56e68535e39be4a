-- A row of a table: cells that end at columns, and the texts after them. This project's profile.
use Rattle.std.specs.Prelude.{ℕ, ◌-◌, ◌==◌, List, [], ◌∷◌, ◌++◌, length, take, codes, if◌then◌else◌}
use Rattle.std.specs.List.{concat, flat_map}

-- the blanks before a text that ends at a column, at most 14
abbrev pub gap : ℕ → List ℕ → List ℕ
gap width text = take (width - length text) (codes "              ")

-- two blanks, if a text follows them
abbrev pub before_text : List ℕ → List ℕ
before_text text = if length text == 0 then [] else codes "  "

-- a text that ends at a column so many characters on
unfoldable pub cell_text : ℕ × List ℕ → List ℕ
cell_text (width, text) = concat (gap width text ∷ text ∷ [])

-- a text after the cells
unfoldable pub text_after : List ℕ → List ℕ
text_after text = concat (before_text text ∷ text ∷ [])

-- a row of these cells, and of these texts after them
unfoldable pub row : List (ℕ × List ℕ) → List (List ℕ) → List ℕ
row cells texts = flat_map cell_text cells ++ (flat_map text_after texts ++ codes "\n")
