use Rattle.std.proofs.Common.{arith}
use Rattle.a2_play.proofs.replayed_run.bring.Goals as goal

pub loop-preserved : goal.loop-preserved
loop-preserved g c = λ program last at inside ahead.
    let (again, index, within) = c.loop.invariant program last at inside ahead in
    let (on, more, most) = c.run_on.ensures program last again inside in
    (on, omega (arith, index, more), most)
