use Rattle.std.proofs.Common.{arith}
use Rattle.a2_timed_keys.proofs.Typing.{typed_more, full_more}
use Rattle.a2_timed_keys.proofs.strokes.type_due.Goals as goal

pub returns-then-not-type_stroke-clause-full : goal.returns-then-not-type_stroke-clause-full
returns-then-not-type_stroke-clause-full g c = λ _.
    full_more c.args.typed.now c.loop-stroke.stroke-index c.args.steps _ c.args.machine.now c.loop-stroke.machine
    (omega arith) c.loop-stroke.invariant (c.type_stroke.ensures.full c.if-not-type_stroke.true)

pub loop-stroke-preserved : goal.loop-stroke-preserved
loop-stroke-preserved g c =
    typed_more c.args.typed.now c.loop-stroke.stroke-index c.args.steps _ c.args.machine.now c.loop-stroke.machine c.type_stroke.new.machine
    (omega arith) c.loop-stroke.invariant (c.type_stroke.ensures.typed c.if-not-type_stroke.false)
