use Rattle.a2_effect.specs.View.{registers_of}
use Rattle.a2_promise_certify.specs.Walking.{IsWalk}
use Rattle.a2_promise_certify.proofs.walk.run_to_own_rts.Given as goal

abbrev pub invariant-loop-steps : goal.invariant-loop-steps
invariant-loop-steps l =
    IsWalk l.known l.stored l.fn.walk.parts l.walk.parts l.changes (registers_of l.fn.walk.regs) l.fn.walk.space
    (registers_of l.walk.regs) l.walk.space l.walk.cycles l.steps
