use Rattle.std.proofs.Common.{◌≡◌, ◌<◌, drop}
use Rattle.a2_picture.specs.Checksums.{sums_after}
use Rattle.a2_picture.proofs.checksums.sums_after.Given as goal

-- the rest of the bytes gives the sums of all
abbrev pub invariant-loop-byte : goal.invariant-loop-byte
invariant-loop-byte l = record {
  value : sums_after (record { low = l.low; high = l.high }) (drop l.byte-index l.bytes) ≡ sums_after l.fn.sums l.bytes;
  small_low : l.low < 65521;
  small_high : l.high < 65521;
}
