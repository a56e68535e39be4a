use Rattle.std.proofs.Common.{arith}
use Rattle.a2_timed_keys.proofs.Keys.{none_more}
use Rattle.a2_timed_keys.proofs.strokes.next_due.Goals as goal

pub loop-stroke-preserved : goal.loop-stroke-preserved
loop-stroke-preserved c = record {
  more = c.sooner-until.ensures.more;
  within = omega (arith, c.sooner-until.ensures.within, c.loop-stroke.invariant.within);
  none = λ k l h. none_more c.args.typed.now c.loop-stroke.stroke-index k _ (omega arith)
      (c.loop-stroke.invariant.none k l (omega (arith, h, c.sooner-until.ensures.within))) (c.sooner-until.ensures.none k l h);
}
