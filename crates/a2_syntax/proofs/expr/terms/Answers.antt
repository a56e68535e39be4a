use Rattle.std.proofs.Common.{◌∷◌, codes, ap, arith, length, refl}
use Rattle.std.proofs.lemmas.List.{nil_from_length}
use Rattle.a2_syntax.proofs.ExprLaws.{now, plus-terms, more-parts}
use Rattle.a2_syntax.proofs.expr.terms.Goals as goal

pub more_terms-requires : goal.more_terms-requires
more_terms-requires g c = omega (arith, ap length c.push_reserved.ensures.items, ap length c.in_ok-found.ensures.items, ap length c.in-Some.ensures.cases.0, c.requires)

pub returns-then-others-eq0 : goal.returns-then-others-eq0
returns-then-others-eq0 g c = rw (c.of.ensures, c.push_reserved.ensures.items, c.in_ok-found.ensures.items)
    (_, _, ap now c.in-Some.ensures.cases.0, refl, rw c.in-Some-2.is at c.in_ok-term.ensures, ap now (nil_from_length c.in-Some.others.now c.if-others-eq0.true))

pub returns-then-not-branch : goal.returns-then-not-branch
returns-then-not-branch g c = λ ts h.
    (let (_, more, _, _, _, are) = more-parts ts (ap (λ ps. codes "+" ∷ now ps) c.in-Some.ensures.cases.0) (plus-terms _ ts h) in c.in_ok-more_terms.ensures.none c.if-not-branch.true more are)

pub returns : goal.returns
returns g c = let (more, is, are) = c.in_ok-more_terms.ensures.read c.if-not-branch.false in
    rw (c.of-2.ensures, is, c.push_reserved.ensures.items, c.in_ok-found.ensures.items) (_, _, ap now c.in-Some.ensures.cases.0, refl, rw c.in-Some-2.is at c.in_ok-term.ensures, are)
