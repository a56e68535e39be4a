use Rattle.std.proofs.Common.{◌≡◌, ◌+◌, ◌*◌, ◌++◌, take, length}
use Rattle.a2_opcode.proofs.Spacing.{spaced}
use Rattle.a2_opcode.proofs.listing.put_spaced.Given as goal

abbrev pub invariant-loop-byte : goal.invariant-loop-byte
invariant-loop-byte l = record {
  bytes : l.text.bytes ≡ l.fn.text.bytes ++ spaced (take (l.byte-index + 1) l.bytes);
  long : length l.text.bytes ≡ length l.fn.text.bytes + (3 * l.byte-index + 2);
  some : length l.bytes ≡ length l.rest + 1;
}
