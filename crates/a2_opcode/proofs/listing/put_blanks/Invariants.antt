use Rattle.std.proofs.Common.{◌≡◌, ◌++◌, replicate}
use Rattle.a2_opcode.proofs.listing.put_blanks.Given as goal

abbrev pub invariant-loop : goal.invariant-loop
invariant-loop l = l.text.bytes ≡ l.initial.text.bytes ++ replicate l.counter 32
