-- One more entry, and one more sector of the catalog.
use Rattle.std.proofs.Common.{◌≡◌, ℕ, ◌+◌, ◌-◌, ◌<◌, zero, suc, List, [], ◌∷◌, ◌++◌, refl, arith}
use Rattle.std.specs.Prelude.{◌%◌, slice_index, if◌then◌else◌}
use Rattle.a2_disk.specs.Sectors.{is_sector, sector_start}
use Rattle.a2_disk.specs.Catalog.{in_use, with_used, with_sectors, with_characters}

pub used_none : (entries disk : List ℕ) (at : ℕ) → with_used entries disk at 0 ≡ entries
unfolding with_used
used_none entries disk at = refl

pub used_step : (entries disk : List ℕ) (at n : ℕ) → 0 < n
    → with_used entries disk at n ≡ with_used (if in_use disk at then entries ++ at ∷ [] else entries) disk (at + 35) (n - 1)
unfolding with_used
used_step entries disk at zero some = absurd (omega arith)
used_step entries disk at (suc n) some = let e : suc n - 1 ≡ n = omega arith in rw e refl

pub sectors_none : (entries disk : List ℕ) (track sector : ℕ) → with_sectors entries disk track sector 0 ≡ entries
unfolding with_sectors
sectors_none entries disk track sector = refl

pub sectors_step : (entries disk : List ℕ) (track sector n : ℕ) → 0 < n
    → with_sectors entries disk track sector n
    ≡ (if is_sector track sector
    then with_sectors (with_used entries disk (sector_start track sector + 11) 7) disk
    (slice_index disk (sector_start track sector + 1)) (slice_index disk (sector_start track sector + 2)) (n - 1)
    else entries)
unfolding with_sectors
sectors_step entries disk track sector zero some = absurd (omega arith)
sectors_step entries disk track sector (suc n) some = let e : suc n - 1 ≡ n = omega arith in rw e refl

pub characters_none : (characters disk : List ℕ) (at : ℕ) → with_characters characters disk at 0 ≡ characters
unfolding with_characters
characters_none characters disk at = refl

pub characters_step : (characters disk : List ℕ) (at n : ℕ) → 0 < n
    → with_characters characters disk at n ≡ with_characters (characters ++ slice_index disk at % 128 ∷ []) disk (at + 1) (n - 1)
unfolding with_characters
characters_step characters disk at zero some = absurd (omega arith)
characters_step characters disk at (suc n) some = let e : suc n - 1 ≡ n = omega arith in rw e refl
