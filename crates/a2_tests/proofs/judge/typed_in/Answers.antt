use Rattle.a2_tests.proofs.Verdicts.{next-typed}
use Rattle.a2_tests.proofs.judge.typed_in.Goals as goal

pub loop-asked-preserved : goal.loop-asked-preserved
loop-asked-preserved g c =
    let typed = c.in_ok-add_typed.ensures in
    next-typed c.args.lines.now c.loop-asked.asked-index _ c.loop-asked.log typed.0 _ c.loop-asked-test.true c.loop-asked.invariant typed.1 typed.2
