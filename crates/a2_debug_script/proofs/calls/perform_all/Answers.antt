use Rattle.std.proofs.Common.{arith}
use Rattle.std.proofs.lemmas.List.{take_more}
use Rattle.a2_debug_script.proofs.Listed.{run_push}
use Rattle.a2_debug_script.proofs.calls.perform_all.Goals as goal

pub loop-call-preserved : goal.loop-call-preserved
loop-call-preserved g c = record {
  run = rw (take_more c.args.calls.now c.loop-call.call-index c.call-item.result (omega arith), ← c.call-item.is, c.push_reserved.ensures.items)
      (run_push _ _ _ _ _ c.call-item.result c.perform.result c.loop-call.invariant.run c.perform.ensures);
  count = omega (arith, c.push_reserved.ensures.len, c.loop-call.invariant.count);
  room = omega (arith, c.push_reserved.ensures.capacity, c.loop-call.invariant.room);
}
