use Rattle.std.proofs.Common.{◌≡◌, ◌+◌, ◌%◌, drop, fold}
use Rattle.a2_formats.proofs.records.sum_of_bytes.Given as goal

-- the sum so far, continued over the bytes that are left, is the sum of all
abbrev pub invariant-loop-byte : goal.invariant-loop-byte
invariant-loop-byte l = fold (λ sum byte. (sum + byte) % 256) l.sum (drop l.byte-index l.bytes) ≡ fold (λ sum byte. (sum + byte) % 256) 0 l.bytes
