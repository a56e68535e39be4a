-- One more entry.
use Rattle.std.proofs.Common.{◌≡◌, ℕ, ◌+◌, ◌-◌, ◌<◌, zero, suc, List, length, Option, Some, None, refl, arith}
use Rattle.std.specs.Prelude.{nat_lt, nat_eq, if◌then◌else◌, ◌==◌}
use Rattle.a2_formats.specs.AppleSingle.{long_at, entry_of}

pub entry_none : (id : ℕ) (file : List ℕ) (at : ℕ) → entry_of id file at 0 ≡ None
unfolding entry_of
entry_none id file at = refl

pub entry_step : (id : ℕ) (file : List ℕ) (at n : ℕ) → 0 < n
    → entry_of id file at n
    ≡ (if nat_lt (length file - at) 12 then None
    else if long_at file at == id then Some (record { offset = long_at file (at + 4); length = long_at file (at + 8) })
    else entry_of id file (at + 12) (n - 1))
unfolding entry_of
entry_step id file at zero some = absurd (omega arith)
entry_step id file at (suc n) some = let e : suc n - 1 ≡ n = omega arith in rw e refl
