-- AppleSingle files (RFC 1740, appendices A and B), and their entry for ProDOS, whose auxiliary type is the address of a
-- binary file (Apple, AppleSingle/AppleDouble Formats for Foreign Files, 1990).
use Rattle.std.specs.Prelude.{ℕ, zero, suc, ◌+◌, ◌-◌, ◌*◌, ◌==◌, nat_lt, List, length, take, drop, slice_index, Option, Some, None, Result, Err, if◌then◌else◌}
use Rattle.a2_formats.specs.declared.fault.Flaw.TheVariants.{Form, Short, Empty, NoAddress}
use Rattle.a2_formats.specs.declared.fault.FormatFault.{FormatFault}
use Rattle.a2_formats.specs.declared.fault.FormatFault.TheVariants.{At}
use Rattle.a2_formats.specs.Plain.{plain_image}

-- the number in four bytes, the highest one first
abbrev pub long_at : List ℕ → ℕ → ℕ
long_at file at = ((slice_index file at * 256 + slice_index file (at + 1)) * 256 + slice_index file (at + 2)) * 256 + slice_index file (at + 3)

-- the part of a file that an entry names
pub record Entry : Type 0 where
  pub offset : ℕ
  pub length : ℕ

-- the first of n entries from an offset on that has this number; an entry is its number, an offset and a length
unfoldable pub entry_of : ℕ → List ℕ → ℕ → ℕ → Option Entry
entry_of id file at zero = None
entry_of id file at (suc n) =
    if nat_lt (length file - at) 12 then None
    else if long_at file at == id then Some (record { offset = long_at file (at + 4); length = long_at file (at + 8) })
    else entry_of id file (at + 12) n

-- the image of the data fork at an offset, if the entry for ProDOS is at this other offset: it has the rights and the type of the
-- file in two bytes each, and the auxiliary type in four
abbrev pub after_entries : List ℕ → ℕ → ℕ → ℕ → Result (ℕ → Option ℕ) FormatFault
after_entries file fork count info =
    if nat_lt (length file) (fork + count) then Err (At (length file) Short)
    else if nat_lt (length file) (info + 8) then Err (At (length file) Short)
    else plain_image (info + 4) (long_at file (info + 4)) (take count (drop fork file))

-- the image by the entry for ProDOS, if there is one
abbrev pub after_data : List ℕ → Entry → Option Entry → Result (ℕ → Option ℕ) FormatFault
after_data file fork None = Err (At 26 NoAddress)
after_data file fork (Some info) = after_entries file fork.offset fork.length info.offset

-- the image by both entries, if there are any
abbrev pub with_entries : List ℕ → Option Entry → Option Entry → Result (ℕ → Option ℕ) FormatFault
with_entries file None info = Err (At 26 Empty)
with_entries file (Some fork) info = after_data file fork info

-- how many entries a file has
abbrev pub entry_count : List ℕ → ℕ
entry_count file = slice_index file 24 * 256 + slice_index file 25

-- The image of a file: the number 0x00051600, the version, 16 bytes without meaning, the number of entries, and the entries. The
-- entry with number 1 is the data fork, the one with number 11 that for ProDOS.
abbrev pub apple_image : List ℕ → Result (ℕ → Option ℕ) FormatFault
apple_image file =
    if nat_lt (length file) 26 then Err (At (length file) Short)
    else if long_at file 0 == 0x00051600 then with_entries file (entry_of 1 file 26 (entry_count file)) (entry_of 11 file 26 (entry_count file))
    else Err (At 0 Form)
