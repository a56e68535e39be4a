-- The table of a source's names with the lines that define and use them. This project's profile.
use Rattle.std.specs.Prelude.{ℕ, ◌-◌, max, List, [], ◌∷◌, ◌++◌, length, map, fold, codes, unwrap_or}
use Rattle.std.specs.List.{concat, flat_map}
use Rattle.std.specs.List.Sorted.{IsPermutation, IsSorted}
use Rattle.std.specs.Cmp.Lexicographic.{slice_cmp}
use Rattle.std.specs.Ordering.{nat_cmp}
use Rattle.std.specs.Fmt.{decimal}
use Rattle.a2_text.specs.Digits.{hex_word}
use Rattle.a2_syntax.specs.declared.source.Line.{Line}
use Rattle.a2_asm.specs.Values.{Names, name_value}
use Rattle.a2_list.specs.Blanks.{blanks}
use Rattle.a2_list.specs.Uses.{uses, definition}

-- the names in the order of their bytes: capitals in alphabetical order, then `_`, then small letters
pub record AreInOrder (names : Names) (order : List (List ℕ)) : Type 0 where
  pub same : IsPermutation (map (λ entry. entry.0) names) order
  pub ascending : IsSorted (slice_cmp nat_cmp) order

-- the width of the first column: that of its longest cell
abbrev pub width_of : List (List ℕ) → ℕ
width_of order = fold (λ width name. max width (length name)) 4 order

-- the number of a line, after a blank
abbrev pub number : ℕ → List ℕ
number n = codes " " ++ decimal n

-- the numbers of lines, or `-` if there are none
abbrev pub numbers : List ℕ → List ℕ
numbers [] = codes " -"
numbers (n ∷ ns) = flat_map number (n ∷ ns)

-- a name, its value, and the number of the line that defines it, with gaps after name and number
unfoldable pub use_columns : ℕ → List ℕ → ℕ → List ℕ → List ℕ
use_columns width name value line =
    concat (name ∷ blanks (width - length name) ∷ codes "  " ∷ hex_word value ∷ codes "   " ∷ line ∷ blanks (4 - length line) ∷ codes " " ∷ [])

-- the row of a name: these, and the numbers of the lines that use it
abbrev pub use_row : {A : Type 0} → ℕ → Names → List (Line A) → List ℕ → List ℕ
use_row width names lines name =
    use_columns width name (unwrap_or (name_value names name) 0) (decimal (definition name lines)) ++ (numbers (uses name 1 lines) ++ codes "\n")

-- the head of the table, with a gap after its first cell
unfoldable pub use_head : ℕ → List ℕ
use_head width = concat (codes "NAME" ∷ blanks (width - 4) ∷ codes "  VALUE  LINE  USED IN LINES\n" ∷ [])

-- the table of names in an order
abbrev pub use_table : {A : Type 0} → Names → List (Line A) → List (List ℕ) → List ℕ
use_table names lines order = use_head (width_of order) ++ flat_map (use_row (width_of order) names lines) order
