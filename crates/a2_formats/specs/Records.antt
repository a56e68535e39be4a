-- What the records of Intel HEX and of S-records have in common.
use Rattle.std.specs.Prelude.{ℕ, ◌+◌, ◌%◌, Bool, List, fold}

-- What a record does: its bytes go to the addresses from `start` upwards, `base` is what later addresses are added to, and
-- `ends` says whether the file ends here.
pub record Step : Type 0 where
  pub start : ℕ
  pub bytes : List ℕ
  pub base : ℕ
  pub ends : Bool

-- the sum of some bytes, modulo 256
abbrev pub sum_of_bytes : List ℕ → ℕ
sum_of_bytes bytes = fold (λ sum byte. (sum + byte) % 256) 0 bytes
