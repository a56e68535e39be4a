use Rattle.std.proofs.Common.{◌≡◌, drop, fold}
use Rattle.a2_tape.specs.Tape.{with_byte}
use Rattle.a2_tape.proofs.tape.put_bytes.Given as goal

abbrev pub invariant-loop-byte : goal.invariant-loop-byte
invariant-loop-byte l = fold with_byte l.wave.items (drop l.byte-index l.bytes) ≡ fold with_byte l.fn.wave.items l.bytes
