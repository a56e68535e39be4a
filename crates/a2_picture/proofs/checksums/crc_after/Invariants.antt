use Rattle.std.proofs.Common.{◌≡◌, drop}
use Rattle.a2_picture.specs.Checksums.{crc_after}
use Rattle.a2_picture.proofs.checksums.crc_after.Given as goal

-- the rest of the bytes gives the CRC of all
abbrev pub invariant-loop-byte : goal.invariant-loop-byte
invariant-loop-byte l = crc_after l.crc (drop l.byte-index l.bytes) ≡ crc_after l.fn.crc l.bytes
