-- The rows of an image: from the lowest address on the instruction that begins there, or the byte that begins none, and so on
-- after it. A row is what the Monitor's command L lists on a line (Apple II Reference Manual 1979, chapter 3).
use Rattle.std.specs.Prelude.{ℕ, zero, suc, ◌+◌, List, [], ◌∷◌, ◌++◌, Option, Some, None, nat_lt, unwrap_or, if◌then◌else◌}
use Rattle.a2_hex.specs.Images.{ram_end}
use Rattle.a2_opcode.specs.Listing.{listing_length}
use Rattle.a2_diff.specs.declared.rows.Row.{Row}

-- two bytes after the first one, up to an address that has none
abbrev pub two_after : Option ℕ → Option ℕ → List ℕ
two_after None third = []
two_after (Some second) None = second ∷ []
two_after (Some second) (Some third) = second ∷ third ∷ []

-- the bytes from an address on, at most three and up to an address that has none
abbrev pub front : (ℕ → Option ℕ) → ℕ → List ℕ
front image at = unwrap_or (image at) 0 ∷ two_after (image (at + 1)) (image (at + 2))

-- how many bytes the row at an address has
abbrev pub length_at : (ℕ → Option ℕ) → ℕ → ℕ
length_at image at = listing_length (front image at) at

-- the row at an address, which has a byte
abbrev pub row_at : (ℕ → Option ℕ) → ℕ → Row
row_at image at = record {
  address = at;
  length = length_at image at;
  bytes = unwrap_or (image at) 0 ∷ (if nat_lt 1 (length_at image at) then unwrap_or (image (at + 1)) 0 else 0)
      ∷ (if nat_lt 2 (length_at image at) then unwrap_or (image (at + 2)) 0 else 0) ∷ [];
}

-- the row at an address, if it has a byte
abbrev pub rows_if : Option ℕ → Row → List Row
rows_if None row = []
rows_if (Some byte) row = row ∷ []

abbrev pub rows_at : (ℕ → Option ℕ) → ℕ → List Row
rows_at image at = if nat_lt at ram_end then rows_if (image at) (row_at image at) else []

-- the address after the row at an address, or the next one if it has no byte
abbrev pub after_if : Option ℕ → ℕ → ℕ → ℕ
after_if None at length = at + 1
after_if (Some byte) at length = at + length

abbrev pub after : (ℕ → Option ℕ) → ℕ → ℕ
after image at = if nat_lt at ram_end then after_if (image at) at (length_at image at) else at + 1

-- the rows from an address on, of which the first n addresses with a row or without a byte are looked at
unfoldable pub rows_from : (ℕ → Option ℕ) → ℕ → ℕ → List Row
rows_from image at zero = []
rows_from image at (suc n) = rows_at image at ++ rows_from image (after image at) n

-- all rows
abbrev pub rows : (ℕ → Option ℕ) → List Row
rows image = rows_from image 0 ram_end
