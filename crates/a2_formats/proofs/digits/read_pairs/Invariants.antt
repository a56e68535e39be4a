use Rattle.std.proofs.Common.{◌≡◌, length}
use Rattle.hex.specs.Hex.{decode_of}
use Rattle.a2_formats.specs.Reading.{in_pairs}
use Rattle.a2_formats.proofs.DigitLaws.{after_front, pairs}
use Rattle.a2_formats.proofs.digits.read_pairs.Given as goal

-- the bytes so far, and those of the pairs left, are those of all pairs
abbrev pub invariant-loop-rest : goal.invariant-loop-rest
invariant-loop-rest l = after_front l.bytes.items (pairs l.n l.rest) ≡ in_pairs l.n (decode_of l.digits)

abbrev pub decreases-loop-rest : goal.decreases-loop-rest
decreases-loop-rest l = length l.rest
