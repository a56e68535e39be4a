-- The catalog of a disk of DOS 3.3 (Worth and Lechner, Beneath Apple DOS, 1981, chapter 4, "The catalog").
use Rattle.std.specs.Prelude.{ℕ, zero, suc, ◌+◌, ◌%◌, ◌==◌, ◌&&◌, nat_lt, Bool, List, [], ◌∷◌, ◌++◌, slice_index, if◌then◌else◌}
use Rattle.a2_disk.specs.Sectors.{is_sector, sector_start}

-- whether an entry is that of a file: the track of its first list is 0 if it was never used, and 255 if the file was deleted
abbrev pub in_use : List ℕ → ℕ → Bool
in_use disk entry = nat_lt 0 (slice_index disk entry) && nat_lt (slice_index disk entry) 35

-- with the offsets of the entries that are used, of n entries of 35 bytes, the first of them at an offset
unfoldable pub with_used : List ℕ → List ℕ → ℕ → ℕ → List ℕ
with_used entries disk at zero = entries
with_used entries disk at (suc n) = with_used (if in_use disk at then entries ++ at ∷ [] else entries) disk (at + 35) n

-- with those of at most n sectors of the catalog, the first of them in this sector: seven entries from its byte 11 on, and the
-- next sector in its bytes 1 and 2
unfoldable pub with_sectors : List ℕ → List ℕ → ℕ → ℕ → ℕ → List ℕ
with_sectors entries disk track sector zero = entries
with_sectors entries disk track sector (suc n) =
    if is_sector track sector
    then with_sectors (with_used entries disk (sector_start track sector + 11) 7) disk
    (slice_index disk (sector_start track sector + 1)) (slice_index disk (sector_start track sector + 2)) n
    else entries

-- the offsets of the entries of all files; bytes 1 and 2 of sector 0 of track 17 have the first sector of the catalog
abbrev pub catalog : List ℕ → List ℕ
catalog disk = with_sectors [] disk (slice_index disk 69633) (slice_index disk 69634) 15

-- whether an entry is that of a binary file, whose type is 4; the high bit of the type says that the file is locked
abbrev pub is_binary : List ℕ → ℕ → Bool
is_binary disk entry = slice_index disk (entry + 2) % 128 == 4

-- with n bytes from an offset on, without their high bits
unfoldable pub with_characters : List ℕ → List ℕ → ℕ → ℕ → List ℕ
with_characters characters disk at zero = characters
with_characters characters disk at (suc n) = with_characters (characters ++ slice_index disk at % 128 ∷ []) disk (at + 1) n

-- the name in an entry: its 30 bytes from byte 3 on
abbrev pub name : List ℕ → ℕ → List ℕ
name disk entry = with_characters [] disk (entry + 3) 30
