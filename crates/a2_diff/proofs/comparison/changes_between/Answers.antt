use Rattle.std.proofs.Common.{◌<◌, length, rules, refl, arith}
use Rattle.a2_diff.proofs.ComparisonLaws.{firsts-next, seconds-next, firsts-same, seconds-same, alike-more}
use Rattle.a2_diff.proofs.comparison.changes_between.Goals as goal

pub loop-i-preserved-then-j-others-2 : goal.loop-i-preserved-then-j-others-2
loop-i-preserved-then-j-others-2 c =
    let low : c.loop-i.i < length c.args.rows.now = omega (arith, c.if-i-rows-2.true) in
    record {
      first = rw c.in_ok-push.ensures.items (firsts-next c.loop-i.changes.items _ c.args.rows.now c.loop-i.i _ low refl c.loop-i.invariant.first);
      second = rw c.in_ok-push.ensures.items (seconds-same c.loop-i.changes.items _ _ refl c.loop-i.invariant.second);
      alike = rw c.in_ok-push.ensures.items (alike-more c.loop-i.changes.items _ c.loop-i.invariant.alike tt);
      i = omega (arith, low);
      j = c.loop-i.invariant.j;
    }

pub loop-i-preserved-then-is_alike : goal.loop-i-preserved-then-is_alike
loop-i-preserved-then-is_alike c =
    let low : c.loop-i.i < length c.args.rows.now = omega (arith, c.if-i-rows-3.true) in
    let beside : c.loop-i.j < length c.args.others.now = search rules in
    record {
      first = rw c.in_ok-push-2.ensures.items (firsts-next c.loop-i.changes.items _ c.args.rows.now c.loop-i.i _ low refl c.loop-i.invariant.first);
      second = rw c.in_ok-push-2.ensures.items (seconds-next c.loop-i.changes.items _ c.args.others.now c.loop-i.j _ beside refl c.loop-i.invariant.second);
      alike = rw c.in_ok-push-2.ensures.items (alike-more c.loop-i.changes.items _ c.loop-i.invariant.alike (c.is_alike.ensures c.if-is_alike.true));
      i = omega (arith, low);
      j = omega (arith, beside);
    }

pub loop-i-preserved : goal.loop-i-preserved
loop-i-preserved c =
    let beside : c.loop-i.j < length c.args.others.now = search rules in
    record {
      first = rw c.in_ok-push-3.ensures.items (firsts-same c.loop-i.changes.items _ _ refl c.loop-i.invariant.first);
      second = rw c.in_ok-push-3.ensures.items (seconds-next c.loop-i.changes.items _ c.args.others.now c.loop-i.j _ beside refl c.loop-i.invariant.second);
      alike = rw c.in_ok-push-3.ensures.items (alike-more c.loop-i.changes.items _ c.loop-i.invariant.alike tt);
      i = c.loop-i.invariant.i;
      j = omega (arith, beside);
    }
