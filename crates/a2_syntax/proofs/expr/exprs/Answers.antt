use Rattle.std.proofs.Common.{◌+◌, length, take, drop, ap, arith, Some}
use Rattle.std.proofs.lemmas.List.{take_rest, length_push, length-map, length-drop, length-take-le}
use Rattle.std.proofs.lemmas.Bool.{lt-ltb, le-ltb}
use Rattle.a2_syntax.proofs.Going.{goes-more, goes-none}
use Rattle.a2_syntax.proofs.ExprLaws.{now, place-cut, exprs-parts, exprs-more, expr-some}
use Rattle.a2_syntax.proofs.expr.exprs.Goals as goal

pub returns-in_default : goal.returns-in_default
returns-in_default g c = goes-none c.exprs.invariant.reads
    (λ es h. (let (e, more, _, first, _) = exprs-parts _ _ _ es (place-cut c.exprs.rest.now c.comma_at-end.result c.comma_at-end.ensures.front c.comma_at-end.ensures.comma) h in
    (rw c.in_default.is at c.in_ok-next.ensures) e first))

pub of-requires : goal.of-requires
of-requires g c =
    let rest = c.exprs.rest.now in
    let end = c.comma_at-end.result in
    let some = expr-some _ c.in-Some.next (rw c.in-Some.is at c.in_ok-next.ensures) in
    omega (arith, ap length c.in_ok-push.ensures.items, length_push c.exprs.found.items c.in-Some.next, some, length-map (take end rest) (λ x. x.now), length-take-le end rest c.comma_at-end.ensures.within, c.exprs.invariant.count)

pub returns-then-end-rest : goal.returns-then-end-rest
returns-then-end-rest g c =
    let rest = c.exprs.rest.now in
    let end = c.comma_at-end.result in
    let (whole, _) = rw (le-ltb end (length rest) (omega arith)) at (place-cut rest end c.comma_at-end.ensures.front c.comma_at-end.ensures.comma) in
    rw (c.of.ensures, c.in_ok-push.ensures.items) (c.exprs.invariant.reads.leads.back _ (rw whole (rw c.in-Some.is at c.in_ok-next.ensures)))

pub exprs-preserved : goal.exprs-preserved
exprs-preserved g c =
    let rest = c.exprs.rest.now in
    let end = c.comma_at-end.result in
    let lt = lt-ltb end (length rest) (omega arith) in
    let cut = rw lt at (place-cut rest end c.comma_at-end.ensures.front c.comma_at-end.ensures.comma) in
    record {
      reads = rw (c.in_ok-push.ensures.items, take_rest) (goes-more c.in-Some.next c.exprs.invariant.reads
          (λ more h. exprs-more _ _ _ _ more cut.0 (rw c.in-Some.is at c.in_ok-next.ensures) h)
          (λ es h. (let (e, more, _, _, others) = exprs-parts _ _ (Some (now (drop (end + 1) rest))) es cut h in (more, others))));
      count = omega (arith, ap length c.in_ok-push.ensures.items, length_push c.exprs.found.items c.in-Some.next, length-drop (end + 1) rest, ap length (take_rest rest (end + 1)), c.exprs.invariant.count);
    }
