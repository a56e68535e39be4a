use Rattle.std.proofs.Common.{arith}
use Rattle.a2_timed_keys.proofs.Typing.{typed_more}
use Rattle.a2_play.proofs.Remade.{room_more}
use Rattle.a2_play.proofs.replayed_run.type_due.Goals as goal

pub loop-stroke-preserved : goal.loop-stroke-preserved
loop-stroke-preserved g c = λ codes room.
    let was = c.loop-stroke.invariant codes room in
    typed_more c.args.log.now c.loop-stroke.stroke-index c.args.steps _ c.args.machine.now c.loop-stroke.machine c.type_stroke.new.machine
    (omega arith) was
    (c.type_stroke.ensures (codes c.loop-stroke.stroke-index _ (omega arith))
    (room_more c.args.log.now c.loop-stroke.stroke-index c.args.steps _ c.args.machine.now c.loop-stroke.machine (omega arith) was room))
