use Rattle.std.proofs.Common.{◌≡◌, map, take, false}
use Rattle.a2_syntax.specs.Reading.{has_comma}
use Rattle.a2_syntax.proofs.expr.comma_at.Given as goal

abbrev pub invariant-loop-i : goal.invariant-loop-i
invariant-loop-i l = has_comma (map (λ x. x.now) (take l.i l.pieces)) ≡ false
