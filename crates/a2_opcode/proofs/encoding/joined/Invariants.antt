use Rattle.std.proofs.Common.{◌≡◌, ◌∷◌, take}
use Rattle.a2_opcode.proofs.encoding.joined.Given as goal

abbrev pub invariant-loop-byte : goal.invariant-loop-byte
invariant-loop-byte l = l.bytes.items ≡ l.opcode ∷ take l.byte-index l.operand
