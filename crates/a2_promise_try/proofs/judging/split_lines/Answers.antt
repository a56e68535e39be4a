use Rattle.std.proofs.Common.{arith}
use Rattle.a2_promise_try.proofs.RunLines.{line_at, others_next}
use Rattle.a2_promise_try.proofs.judging.split_lines.Goals as goal

pub loop-index-preserved : goal.loop-index-preserved
loop-index-preserved c = record {
  run =
      c.in_ok-push_run.ensures _ c.loop-index.index (omega arith) (line_at c.args.lines.now c.loop-index.index _ c.loop-index-test.true)
      c.loop-index.invariant.run;
  others =
      rw c.in_ok-push.ensures.items (others_next c.args.lines.now c.loop-index.index _ c.other_line.result _ c.loop-index-test.true
      c.loop-index.invariant.others c.other_line.ensures);
}
