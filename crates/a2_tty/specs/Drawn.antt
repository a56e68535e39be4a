-- The line as it is drawn on an ANSI terminal. This project's profile.
use Rattle.std.specs.Prelude.{ℕ, ◌+◌, ◌-◌, ◌==◌, max, min, List, [], ◌∷◌, ◌++◌, codes, length, take, drop, if◌then◌else◌}
use Rattle.std.specs.Fmt.{decimal}
use Rattle.a2_tty.specs.Lines.{Edited}

-- a control sequence of the terminal: X makes this many cells blank, and C moves this many to the right; empty for 0
abbrev pub control_sequence_text : ℕ → ℕ → List ℕ
control_sequence_text number letter = if number == 0 then [] else 0x1B ∷ codes "[" ++ (decimal number ++ letter ∷ [])

-- the columns after the prompt, except the last one, which is for a cursor after the end of the line
abbrev pub room : List ℕ → ℕ → ℕ
room prompt columns = max (columns - (length prompt + 1)) 1

-- the first byte that is shown, and the bytes that are shown
abbrev pub first : ℕ → Edited → ℕ
first room line = line.cursor - (room - 1)

abbrev pub visible : ℕ → Edited → List ℕ
visible room line = take room (drop (first room line) line.bytes)

-- the prompt and the shown bytes, blanks to the last column, and the cursor
abbrev pub shown_text : List ℕ → ℕ → Edited → List ℕ
shown_text prompt room line =
    13 ∷ prompt ++ (visible room line ++ (control_sequence_text (room - length (visible room line)) 0x58
    ++ (13 ∷ control_sequence_text (length prompt + min line.cursor (room - 1)) 0x43)))

abbrev pub line_text : List ℕ → ℕ → Edited → List ℕ
line_text prompt columns line = shown_text prompt (room prompt columns) line
