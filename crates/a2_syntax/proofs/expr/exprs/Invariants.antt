use Rattle.std.proofs.Common.{◌+◌, ◌≤◌, length, map}
use Rattle.a2_syntax.specs.Grammar.{AreExprs}
use Rattle.a2_syntax.proofs.Going.{Goes}
use Rattle.a2_syntax.proofs.expr.exprs.Given as goal

abbrev pub invariant-exprs : goal.invariant-exprs
invariant-exprs g l = record {
  reads : Goes AreExprs (map (λ x. x.now) l.pieces) (map (λ x. x.now) l.rest) l.found.items;
  count : length l.found.items + length l.rest ≤ 255;
}

abbrev pub decreases-exprs : goal.decreases-exprs
decreases-exprs g l = length l.rest
