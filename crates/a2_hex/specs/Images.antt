-- Bytes at addresses of RAM, which ends at $C000 (Apple II Reference Manual 1979, chapter 4).
use Rattle.std.specs.Prelude.{◌≡◌, ◌⊎◌, ℕ, ◌+◌, ◌<◌, ◌≤◌, ◌==◌, List, [], ◌∷◌, Option, Some, None, IfSome, slice_index_or, if◌then◌else◌}

-- the end of RAM: the first address that does not belong to it
abbrev pub ram_end : ℕ
ram_end = 0xC000

-- the cells of an image: the byte at each address, if it has one
abbrev pub Cells : Type 0
Cells = List (Option ℕ)

-- the byte held at an address; there are no bytes after the last cell
abbrev pub held : Cells → ℕ → Option ℕ
held cells a = slice_index_or cells a None

-- bytes are held only from one address up to another
abbrev pub IsWithin : Cells → ℕ → ℕ → Type 0
IsWithin cells start end = (a : ℕ) → (a < start) ⊎ (end ≤ a) → held cells a ≡ None

-- the map without bytes
abbrev pub no_bytes : ℕ → Option ℕ
no_bytes a = None

-- the map of bytes with this byte at an address
abbrev pub put : (ℕ → Option ℕ) → ℕ → ℕ → ℕ → Option ℕ
put image at byte a = if a == at then Some byte else image a

-- the map with these bytes from an address upwards
abbrev pub overlaid : (ℕ → Option ℕ) → ℕ → List ℕ → ℕ → Option ℕ
overlaid image at [] = image
overlaid image at (byte ∷ bytes) = overlaid (put image at byte) (at + 1) bytes

-- a map of bytes to addresses of RAM
abbrev pub IsImage : (ℕ → Option ℕ) → Type 0
IsImage image = (a : ℕ) → IfSome (image a) (λ byte. (a < ram_end) × (byte < 256))
