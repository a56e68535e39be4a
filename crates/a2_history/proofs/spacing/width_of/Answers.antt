use Rattle.std.proofs.Common.{◌<◌, arith, subst}
use Rattle.a2_history.proofs.Nearness.{kept-wide}
use Rattle.a2_history.proofs.spacing.width_of.Goals as goal

pub overflow_sub-width : goal.overflow_sub-width
overflow_sub-width c =
    kept-wide c.args.most c.args.now c.loop-width.width (subst (λ n. c.args.most < n) c.most_kept.ensures c.loop-width-test.true)

pub loop-width-smaller : goal.loop-width-smaller
loop-width-smaller c = omega (
  arith,
  kept-wide c.args.most c.args.now c.loop-width.width (subst (λ n. c.args.most < n) c.most_kept.ensures c.loop-width-test.true),
)
