use Rattle.std.proofs.Common.{◌≡◌, ◌+◌, ◌≤◌, length, None}
use Rattle.a2_expand.specs.Larger.{has_text}
use Rattle.a2_expand.proofs.larger.has_text.Given as goal

-- the remaining bytes decide
abbrev pub invariant-loop-c : goal.invariant-loop-c
invariant-loop-c l = record {
  is : has_text l.quote l.count l.rest ≡ has_text None 0 l.operand;
  count : l.count + length l.rest ≤ length l.operand;
}

abbrev pub decreases-loop-c : goal.decreases-loop-c
decreases-loop-c l = length l.rest
