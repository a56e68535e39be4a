use Rattle.std.proofs.Common.{map}
use Rattle.a2_syntax.proofs.ExprLaws.{expr-found}
use Rattle.a2_syntax.proofs.expr.expr.Goals as goal

pub returns-in-Some : goal.returns-in-Some
returns-in-Some g c = rw c.in-Some.is at (expr-found (map (λ x. x.now) c.args.pieces.now) _ _ c.part-part.ensures.is c.in_ok-terms.ensures)

pub returns-in-None : goal.returns-in-None
returns-in-None g c = rw c.in-None.is at (expr-found (map (λ x. x.now) c.args.pieces.now) _ _ c.part-part.ensures.is c.in_ok-terms.ensures)
