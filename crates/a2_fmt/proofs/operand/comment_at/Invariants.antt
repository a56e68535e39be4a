use Rattle.std.proofs.Common.{◌≡◌, ◌+◌, ◌≤◌, length, None}
use Rattle.a2_fmt.specs.Operand.{comment_at}
use Rattle.a2_fmt.proofs.operand.comment_at.Given as goal

-- the position of the comment in the whole text is that in the remaining bytes plus the number of bytes before them
abbrev pub invariant-loop-c : goal.invariant-loop-c
invariant-loop-c l = record {
  within : length l.rest ≤ length l.text;
  left : comment_at None l.text + length l.rest ≡ length l.text + comment_at l.quote l.rest;
}

abbrev pub decreases-loop-c : goal.decreases-loop-c
decreases-loop-c l = length l.rest
