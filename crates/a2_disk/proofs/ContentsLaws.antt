-- One more sector, and one more list.
use Rattle.std.proofs.Common.{◌≡◌, ℕ, ◌+◌, ◌-◌, ◌<◌, zero, suc, List, ◌++◌, refl, arith}
use Rattle.std.specs.Prelude.{slice_index, if◌then◌else◌}
use Rattle.a2_disk.specs.Sectors.{is_sector, sector_start}
use Rattle.a2_disk.specs.Contents.{sector_bytes, with_listed, with_lists}

pub listed_none : (bytes disk : List ℕ) (at : ℕ) → with_listed bytes disk at 0 ≡ bytes
unfolding with_listed
listed_none bytes disk at = refl

pub listed_step : (bytes disk : List ℕ) (at n : ℕ) → 0 < n
    → with_listed bytes disk at n
    ≡ (if is_sector (slice_index disk at) (slice_index disk (at + 1))
    then with_listed (bytes ++ sector_bytes disk (slice_index disk at) (slice_index disk (at + 1))) disk (at + 2) (n - 1)
    else bytes)
unfolding with_listed
listed_step bytes disk at zero some = absurd (omega arith)
listed_step bytes disk at (suc n) some = let e : suc n - 1 ≡ n = omega arith in rw e refl

pub lists_none : (bytes disk : List ℕ) (track sector : ℕ) → with_lists bytes disk track sector 0 ≡ bytes
unfolding with_lists
lists_none bytes disk track sector = refl

pub lists_step : (bytes disk : List ℕ) (track sector n : ℕ) → 0 < n
    → with_lists bytes disk track sector n
    ≡ (if is_sector track sector
    then with_lists (with_listed bytes disk (sector_start track sector + 12) 122) disk
    (slice_index disk (sector_start track sector + 1)) (slice_index disk (sector_start track sector + 2)) (n - 1)
    else bytes)
unfolding with_lists
lists_step bytes disk track sector zero some = absurd (omega arith)
lists_step bytes disk track sector (suc n) some = let e : suc n - 1 ≡ n = omega arith in rw e refl
