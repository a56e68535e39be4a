-- How an error or a warning about a line of a source is written. This project's own.
use Rattle.std.specs.Prelude.{ℕ, ◌-◌, ◌==◌, nat_lt, min, List, [], ◌∷◌, ◌++◌, length, take, drop, codes, Option, Some, None, if◌then◌else◌}
use Rattle.std.specs.List.{concat, flat_map}
use Rattle.std.specs.Fmt.{decimal}
use Rattle.a2_promise.specs.declared.fault.Refusal.{Refusal}

-- the kind, the place and the message
unfoldable pub heading : List ℕ → List ℕ → List ℕ → List ℕ → List ℕ
heading kind line column says =
    concat (kind ∷ codes ": line " ∷ line ∷ codes ", column " ∷ column ∷ codes ": " ∷ says ∷ codes "\n" ∷ [])

-- a line with its number, and the beginning of the line below it
unfoldable pub numbered : List ℕ → List ℕ → List ℕ → List ℕ
numbered indent number text = concat (indent ∷ number ∷ codes " | " ∷ text ∷ codes "\n     | " ∷ [])

-- numbers of up to four digits end in the same column
abbrev pub indent_for : ℕ → List ℕ
indent_for digits = drop (min digits 4) (codes "    ")

-- what is written below a byte of a line: a tab below a tab, so that the caret is below its column
abbrev pub blank_for : ℕ → List ℕ
blank_for c = if c == 9 then codes "\t" else codes " "

abbrev pub caret_below : List ℕ → List ℕ
caret_below before = flat_map blank_for before ++ codes "^\n"

-- the bytes of a line before a column
abbrev pub before_column : ℕ → List ℕ → List ℕ
before_column column text = take (min (column - 1) (length text)) text

-- a line of at most 255 bytes, with a caret below the column
abbrev pub marked_line : Refusal → List ℕ → List ℕ
marked_line refusal text = if nat_lt 255 (length text) then [] else
    numbered (indent_for (length (decimal refusal.line))) (decimal refusal.line) text
    ++ caret_below (before_column refusal.column text)

abbrev pub marked_line_of : Refusal → Option (List ℕ) → List ℕ
marked_line_of refusal None = []
marked_line_of refusal (Some text) = marked_line refusal text

-- an error or a warning about a line, if the source has that line
abbrev pub marked_text : List ℕ → Refusal → Option (List ℕ) → List ℕ
marked_text kind refusal text =
    heading kind (decimal refusal.line) (decimal refusal.column) refusal.says.now ++ marked_line_of refusal text

abbrev pub name_text : List ℕ → List ℕ
name_text name = if length name == 0 then [] else name ++ codes ": "

-- the error in the lines before a label with a name, which may be empty
abbrev pub refusal_text : List ℕ → Refusal → Option (List ℕ) → List ℕ
refusal_text name refusal text = name_text name ++ marked_text (codes "ERROR") refusal text
