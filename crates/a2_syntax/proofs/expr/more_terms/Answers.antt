use Rattle.std.proofs.Common.{◌∷◌, ◌++◌, [], ◌∙◌, map, length, ap, arith}
use Rattle.std.proofs.lemmas.List.{nil_from_length, append_assoc, length_push, length-map}
use Rattle.std.proofs.lemmas.Bool.{eqb-true, eqb-false}
use Rattle.a2_syntax.specs.declared.source.Signed.{Signed}
use Rattle.a2_syntax.proofs.Going.{goes-more, goes-end, goes-none}
use Rattle.a2_syntax.proofs.ExprLaws.{more-parts, no-more, two-pieces}
use Rattle.a2_syntax.proofs.expr.more_terms.Goals as goal

pub returns-in_default-clause-read : goal.returns-in_default-clause-read
returns-in_default-clause-read g c = λ is.
    (let (done, e, reads) = c.terms.invariant.reads in (done, e, goes-end reads (ap (map (λ x. x.now)) (nil_from_length c.terms.rest.now (eqb-true _ 0 is)))))

pub returns-in_default-clause-none : goal.returns-in_default-clause-none
returns-in_default-clause-none g c = λ is. goes-none c.terms.invariant.reads.2 (λ more h. no-more _ more h (omega (arith, length-map c.terms.rest.now (λ x. x.now), eqb-false _ 0 is)) (omega (arith, length-map c.terms.rest.now (λ x. x.now))))

pub returns-in_default-minus-clause-none : goal.returns-in_default-minus-clause-none
returns-in_default-minus-clause-none g c = λ is. goes-none c.terms.invariant.reads.2
    (λ more h. (let (t, ts, _, sign, _, _) = more-parts more (two-pieces c.terms.rest.now (omega arith)) h in c.in_default-minus.ensures t.minus sign))

pub returns-in_default-2-clause-none : goal.returns-in_default-2-clause-none
returns-in_default-2-clause-none g c = λ is. goes-none c.terms.invariant.reads.2
    (λ more h. (let (t, ts, _, _, term, _) = more-parts more (two-pieces c.terms.rest.now (omega arith)) h in (rw c.in_default-2.is at c.in_ok-term.ensures) t.term term))

pub terms-preserved : goal.terms-preserved
terms-preserved g c =
    let two = two-pieces c.terms.rest.now (omega arith) in
    let (done, e, reads) = c.terms.invariant.reads in
    let next : Signed g.row.A.Denot = record { minus = c.in-Some.is_minus; term = c.in-Some-2.term } in
    record {
      reads = (
        done ++ next ∷ [],
        c.in_ok-push.ensures.items ∙ ap (λ z. z ++ next ∷ []) e ∙ append_assoc _ done (next ∷ []),
        goes-more next reads
            (λ more h. (_, _, _, two, c.in-Some.ensures, rw c.in-Some-2.is at c.in_ok-term.ensures, h))
            (λ others h. (let (t, ts, _, _, _, more) = more-parts others two h in (ts, more))),
      );
      count = omega (arith, ap length c.in_ok-push.ensures.items, length_push c.terms.found.items next, ap length two, c.terms.invariant.count);
    }
