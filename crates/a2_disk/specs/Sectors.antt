-- The sectors of a disk of DOS 3.3: 35 tracks of 16 sectors of 256 bytes (Worth and Lechner, Beneath Apple DOS, 1981,
-- chapter 4).
use Rattle.std.specs.Prelude.{ℕ, ◌+◌, ◌*◌, ◌&&◌, nat_lt, Bool}

-- whether a track has a sector; track 0, which a link uses for its end, has none
abbrev pub is_sector : ℕ → ℕ → Bool
is_sector track sector = nat_lt 0 track && (nat_lt track 35 && nat_lt sector 16)

-- the offset of a sector
abbrev pub sector_start : ℕ → ℕ → ℕ
sector_start track sector = (track * 16 + sector) * 256
