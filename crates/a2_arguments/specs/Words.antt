-- What a word is by its characters. This project's profile.
use Rattle.std.specs.Prelude.{◌==◌, ◌||◌, ℕ, Bool, not, List, length, nat_lt, codes, Option, Some, None, if◌then◌else◌, slice_index}
use Rattle.std.specs.List.{position_or_len, after_first}
use Rattle.std.specs.Str.{bytes_eq}

-- a word is a file: it does not begin with -, or it is a single -, the standard input
abbrev pub is_file : List ℕ → Bool
is_file word = not (slice_index word 0 == 0x2D) || bytes_eq word (codes "-")

-- a word ends the options
abbrev pub is_end : List ℕ → Bool
is_end word = bytes_eq word (codes "--")

abbrev pub is_equals : ℕ → Bool
is_equals c = c == 0x3D

-- the value that follows the first = of a word, if there is one
abbrev pub attached : List ℕ → Option (List ℕ)
attached word = if nat_lt (position_or_len is_equals word) (length word) then Some (after_first is_equals word) else None
