use Rattle.std.proofs.Common.{◌≤◌}
use Rattle.a2_check.proofs.line.operand_len.Given as goal

-- the end is at most the number of bytes read so far
abbrev pub invariant-loop-i : goal.invariant-loop-i
invariant-loop-i l = l.end ≤ l.i
