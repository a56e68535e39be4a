-- The bytes of a file of DOS 3.3 (Worth and Lechner, Beneath Apple DOS, 1981, chapter 4, "The track/sector list").
use Rattle.std.specs.Prelude.{ℕ, zero, suc, ◌+◌, List, [], ◌++◌, take, drop, slice_index, if◌then◌else◌}
use Rattle.a2_disk.specs.Sectors.{is_sector, sector_start}

-- the bytes of a sector
abbrev pub sector_bytes : List ℕ → ℕ → ℕ → List ℕ
sector_bytes disk track sector = take 256 (drop (sector_start track sector) disk)

-- with the sectors of at most n pairs of track and sector, the first of them at an offset
unfoldable pub with_listed : List ℕ → List ℕ → ℕ → ℕ → List ℕ
with_listed bytes disk at zero = bytes
with_listed bytes disk at (suc n) =
    if is_sector (slice_index disk at) (slice_index disk (at + 1))
    then with_listed (bytes ++ sector_bytes disk (slice_index disk at) (slice_index disk (at + 1))) disk (at + 2) n
    else bytes

-- with the sectors of at most n lists, the first of them in this sector: 122 pairs from its byte 12 on, and the next list in
-- its bytes 1 and 2
unfoldable pub with_lists : List ℕ → List ℕ → ℕ → ℕ → ℕ → List ℕ
with_lists bytes disk track sector zero = bytes
with_lists bytes disk track sector (suc n) =
    if is_sector track sector
    then with_lists (with_listed bytes disk (sector_start track sector + 12) 122) disk
    (slice_index disk (sector_start track sector + 1)) (slice_index disk (sector_start track sector + 2)) n
    else bytes

-- the bytes of the file whose entry of the catalog is at an offset; the entry begins with the sector of its first list
abbrev pub contents : List ℕ → ℕ → List ℕ
contents disk entry = with_lists [] disk (slice_index disk entry) (slice_index disk (entry + 1)) 5
