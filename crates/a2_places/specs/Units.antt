-- Positions in a line of UTF-8, counted in UTF-16 units, as the Language Server Protocol 3.17 counts them
-- (microsoft.github.io/language-server-protocol, "Position"). RFC 3629 says which bytes begin a character.
use Rattle.std.specs.Prelude.{◌≡◌, ℕ, ◌+◌, ◌-◌, ◌<◌, ◌≤◌, nat_lt, List, [], ◌∷◌, take, length, sum_by, slice_index, if◌then◌else◌}

-- how many UTF-16 units the character has that a byte begins; none for a byte within a character
unfoldable pub units_of : ℕ → ℕ
units_of byte = if nat_lt byte 0x80 then 1 else if nat_lt byte 0xC0 then 0 else if nat_lt byte 0xF0 then 1 else 2

-- how many UTF-16 units are before the byte at an index
abbrev pub units_before : List ℕ → ℕ → ℕ
units_before line index = sum_by units_of (take index line)

-- the index of the byte at which the character after so many units begins; the length of the line if it has no more
abbrev pub byte_at : List ℕ → ℕ → ℕ
byte_at [] units = 0
byte_at (byte ∷ line) units = if nat_lt units (units_of byte) then 0 else 1 + byte_at line (units - units_of byte)

-- a character begins at an index of a line, or the line ends there
abbrev pub IsBoundary : List ℕ → ℕ → Type 0
IsBoundary line index = index < length line → 0 < units_of (slice_index line index)

-- the index of a place between characters is found again by the units before it
abbrev pub PlacesConvertBack : Type 0
PlacesConvertBack = (line : List ℕ) (index : ℕ) → index ≤ length line → IsBoundary line index → byte_at line (units_before line index) ≡ index
