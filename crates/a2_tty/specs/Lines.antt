-- A line that is edited, and the effect of keys on it. This project's profile.
use Rattle.std.specs.Prelude.{ℕ, zero, suc, ◌+◌, ◌==◌, nat_lt, Bool, true, false, not, List, [], ◌++◌, length, take, drop, insert, remove, slice_index, if◌then◌else◌}
use Rattle.a2_text.specs.Bytes.{is_blank}

-- a line, and how many of its bytes are before the cursor
pub record Edited : Type 0 where
  pub bytes : List ℕ
  pub cursor : ℕ

abbrev pub empty : Edited
empty = record { bytes = []; cursor = 0 }

-- a line has at most 255 bytes
abbrev pub is_full : Edited → Bool
is_full line = length line.bytes == 255

-- a line that is shown, with the cursor after it
abbrev pub shown : List ℕ → Edited
shown bytes = record { bytes = bytes; cursor = length bytes }

abbrev pub at : ℕ → Edited → Edited
at cursor line = record line { cursor = cursor }

abbrev pub right_of : Edited → ℕ
right_of line = if nat_lt line.cursor (length line.bytes) then line.cursor + 1 else line.cursor

-- the line with one more character at the cursor, if there is room
abbrev pub with_letter : ℕ → Edited → Edited
with_letter letter line =
    if is_full line then line else record { bytes = insert line.bytes line.cursor letter; cursor = line.cursor + 1 }

-- the line without the byte at the cursor, and the line without everything from the cursor to its end
abbrev pub without_next : Edited → Edited
without_next line = if nat_lt line.cursor (length line.bytes) then record line { bytes = remove line.bytes line.cursor } else line

abbrev pub without_rest : Edited → Edited
without_rest line = record line { bytes = take line.cursor line.bytes }

-- the line without the bytes from a position to the cursor
abbrev pub without_from : ℕ → Edited → Edited
without_from place line = record { bytes = take place line.bytes ++ drop line.cursor line.bytes; cursor = place }

-- the position reached from another one to the left, past bytes that pass a test
unfoldable pub back_over : (ℕ → Bool) → List ℕ → ℕ → ℕ
back_over test bytes zero = zero
back_over test bytes (suc place) = if test (slice_index bytes place) then back_over test bytes place else suc place

abbrev pub is_alike : Bool → Bool → Bool
is_alike true one = one
is_alike false one = not one

-- the start of the word before the cursor; there may be blanks between the word and the cursor
abbrev pub word_start : Edited → ℕ
word_start line = back_over (λ c. is_alike false (is_blank c)) line.bytes (back_over (λ c. is_alike true (is_blank c)) line.bytes line.cursor)
