use Rattle.std.proofs.Common.{◌≡◌, ◌↔◌, length}
use Rattle.a2_fmt.proofs.same.are_same.Given as goal

-- the remaining lists are equal exactly if the whole lists are
abbrev pub invariant-loop-first : goal.invariant-loop-first
invariant-loop-first g l = l.a ≡ l.b ↔ l.left ≡ l.right

abbrev pub decreases-loop-first : goal.decreases-loop-first
decreases-loop-first g l = length l.left
