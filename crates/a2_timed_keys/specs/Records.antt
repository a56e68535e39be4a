-- A session's keys with their steps, as a text. This project's profile.
use Rattle.std.specs.Prelude.{ℕ, List, [], ◌∷◌, ◌++◌, codes}
use Rattle.std.specs.Fmt.{decimal}
use Rattle.a2_text.specs.Digits.{hex_pair}
use Rattle.a2_timed_keys.specs.declared.strokes.Typed.{Typed}

-- the line of a key: the number of steps when it was typed, and its code, 00 to 7F
abbrev pub key_line : Typed → List ℕ
key_line typed = decimal typed.steps ++ (codes " " ++ (hex_pair typed.key ++ codes "\n"))

-- the line of the end: the number of steps
abbrev pub end_line : ℕ → List ℕ
end_line steps = decimal steps ++ codes " END\n"

-- a line for each key, in the order in which they were typed
abbrev pub key_lines : List Typed → List ℕ
key_lines [] = []
key_lines (typed ∷ more) = key_line typed ++ key_lines more

abbrev pub record_text : List Typed → ℕ → List ℕ
record_text log steps = key_lines log ++ end_line steps
