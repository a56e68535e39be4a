use Rattle.std.proofs.Common.{◌≡◌, ◌++◌, List, ◌+◌, ◌≤◌, map, length}
use Rattle.a2_syntax.specs.Grammar.{AreMoreTerms}
use Rattle.a2_syntax.specs.declared.source.Signed.{Signed}
use Rattle.a2_syntax.proofs.Going.{Goes}
use Rattle.a2_syntax.proofs.expr.more_terms.Given as goal

abbrev pub invariant-terms : goal.invariant-terms
invariant-terms g l = record {
  reads : (done : List (Signed g.row.A.Denot)) × (l.found.items ≡ l.fn.found.items ++ done) × Goes AreMoreTerms (map (λ x. x.now) l.pieces) (map (λ x. x.now) l.rest) done;
  count : length l.found.items + length l.rest ≤ 255;
}

abbrev pub decreases-terms : goal.decreases-terms
decreases-terms g l = length l.rest
