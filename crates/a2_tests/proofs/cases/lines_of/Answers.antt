use Rattle.a2_tests.proofs.Lining.{next-line}
use Rattle.a2_tests.proofs.cases.lines_of.Goals as goal

pub loop-index-preserved : goal.loop-index-preserved
loop-index-preserved g c =
    rw c.in_ok-push.ensures.items
    (next-line c.args.texts.now c.loop-index.index c.loop-index.lines.items c.numbered_line.result c.loop-index-test.true c.loop-index.invariant c.numbered_line.ensures)
