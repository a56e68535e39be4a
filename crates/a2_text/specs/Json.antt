-- How a byte is written in a JSON string (RFC 8259). This project's profile decides which bytes are written by their
-- number.
use Rattle.std.specs.Prelude.{ℕ, ◌==◌, ◌||◌, nat_lt, List, [], ◌∷◌, ◌++◌, codes, if◌then◌else◌}
use Rattle.a2_text.specs.Digits.{hex_pair}

-- a quote or a backslash after a backslash; a byte that is not a printable ASCII character by its number, as in \u00C1
abbrev pub escaped : ℕ → List ℕ
escaped byte =
    if (byte == 0x22) || (byte == 0x5C) then 0x5C ∷ byte ∷ []
    else if nat_lt byte 0x20 || nat_lt 0x7E byte then codes "\\u00" ++ hex_pair byte else byte ∷ []
