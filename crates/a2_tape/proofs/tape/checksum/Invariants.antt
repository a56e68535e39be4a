use Rattle.std.proofs.Common.{◌≡◌, drop, fold, bit_xor}
use Rattle.a2_tape.proofs.tape.checksum.Given as goal

abbrev pub invariant-loop-byte : goal.invariant-loop-byte
invariant-loop-byte l = fold bit_xor l.sum (drop l.byte-index l.bytes) ≡ fold bit_xor 255 l.bytes
