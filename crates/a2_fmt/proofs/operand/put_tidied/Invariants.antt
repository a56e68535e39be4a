use Rattle.std.proofs.Common.{◌≡◌, ◌++◌, false, length, None}
use Rattle.a2_fmt.specs.Operand.{tidied}
use Rattle.a2_fmt.proofs.operand.put_tidied.Given as goal

-- the row so far and the remaining bytes make up the complete row
abbrev pub invariant-loop-c : goal.invariant-loop-c
invariant-loop-c g l = l.row.items ++ tidied l.indexed l.quote l.raised l.rest ≡ l.fn.row.items ++ tidied l.indexed None false l.text

abbrev pub decreases-loop-c : goal.decreases-loop-c
decreases-loop-c g l = length l.rest
