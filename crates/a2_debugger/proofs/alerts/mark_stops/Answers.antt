use Rattle.std.proofs.Common.{arith, ap, ◌∙◌}
use Rattle.std.proofs.Math.ListN.{length-set}
use Rattle.std.proofs.lemmas.List.{take_all}
use Rattle.std.specs.List.{list_any}
use Rattle.a2_debugger.specs.Stops.{is_hit}
use Rattle.a2_debugger.proofs.Calm.{marked-next}
use Rattle.a2_debugger.proofs.alerts.mark_stops.Goals as goal

pub loop-place-preserved : goal.loop-place-preserved
loop-place-preserved c = record {
  size = simp length-set c.loop-place.invariant.size;
  marked = marked-next c.args.breaks.now c.loop-place.place-index _ c.loop-place.marks c.from.result c.loop-place-test.true c.from.ensures
      (omega (arith, c.from.ensures, c.loop-place.invariant.size)) c.loop-place.invariant.marked;
}

pub returns : goal.returns
returns c = λ moment hit. c.loop-place.invariant.marked moment
    (ap (λ xs. list_any (is_hit moment) xs) (take_all c.loop-place.place-index c.args.breaks.now c.loop-place-test.false) ∙ hit)
