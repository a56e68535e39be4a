use Rattle.std.proofs.Common.{◌∙◌, arith}
use Rattle.a2_film.proofs.Moves.{count-here, count-elsewhere}
use Rattle.a2_film.proofs.steps.count_at.Goals.{then-stroke-steps, else-stroke-steps}
use Rattle.a2_film.proofs.steps.count_at.Goals as goal

pub loop-stroke-preserved : goal.loop-stroke-preserved
loop-stroke-preserved c =
    let i = c.loop-stroke.stroke-index in
    let was = c.loop-stroke.invariant.counted in
    elim c.if-stroke-steps.branch [
      | then-stroke-steps w ↦ record {
        counted = w.count-is ∙ count-here c.args.typed.now i c.args.steps c.loop-stroke.count _ c.loop-stroke-test.true was w.if-stroke-steps.true;
        within = omega (arith, w.count-is, c.loop-stroke.invariant.within);
      }
      | else-stroke-steps w ↦ record {
        counted = w.count-is ∙ count-elsewhere c.args.typed.now i c.args.steps c.loop-stroke.count _ c.loop-stroke-test.true was w.if-stroke-steps.false;
        within = omega (arith, w.count-is, c.loop-stroke.invariant.within);
      }
    ]
