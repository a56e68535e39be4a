use Rattle.std.proofs.Common.{List, subst}
use Rattle.a2_machine.specs.State.{code_of, world_of_state}
use Rattle.a2_timed_keys.specs.declared.strokes.Typed.{Typed}
use Rattle.a2_timed_keys.specs.Typed.{AreCopies, IsOverfull, IsTypedStop}
use Rattle.a2_timed_keys.proofs.EndLaws.{copies_of, stop_of, typed_ended, typed_overfull}
use Rattle.a2_timed_keys.proofs.ended.Ended.of.Goals as goal

pub invariant_of-result : goal.invariant_of-result
invariant_of-result g c =
    let old = c.in_ok-machine.machine.state in
    let keys = c.args.args.run.keys.now in
    let log = c.args.args.strokes.now in
    let free = c.args.args.run.free in (
      stop_of c.args.program.now keys log c.args.args.run.limit free old c.run_keeping.new.machine.state c.in-Ok.cause
          c.in_ok-machine.ensures
          (subst (λ (l : List Typed). IsTypedStop (code_of old) (world_of_state old) l c.args.args.run.limit c.run_keeping.new.machine.state c.in-Ok.cause)
          c.as_slice.ensures.keys c.in-Ok.ensures.stopped),
      copies_of c.args.program.now keys log free old c.in-Ok.earlier.older c.in-Ok.earlier.newer c.in_ok-machine.ensures
          (subst (λ (l : List Typed). AreCopies (code_of old) (world_of_state old) l c.in-Ok.earlier.older c.in-Ok.earlier.newer)
          c.as_slice.ensures.keys c.in-Ok.ensures.copies),
      c.run_keeping.ensures.range,
    )

pub returns-in-Ok-clause-ended : goal.returns-in-Ok-clause-ended
returns-in-Ok-clause-ended g c =
    let old = c.in_ok-machine.machine.state in
    let limit = c.args.args.run.limit in
    typed_ended c.args.program.now c.args.args.run.keys.now c.args.args.strokes.now limit c.args.args.run.free old c.run_keeping.new.machine.state
    c.in-Ok.cause c.is_sound.ensures c.in_ok-machine.ensures
    (subst (λ (l : List Typed). IsTypedStop (code_of old) (world_of_state old) l limit c.run_keeping.new.machine.state c.in-Ok.cause)
    c.as_slice.ensures.keys c.in-Ok.ensures.stopped)

pub returns-clause-refused : goal.returns-clause-refused
returns-clause-refused g c =
    let old = c.in_ok-machine.machine.state in
    typed_overfull c.args.program.now c.args.args.run.keys.now c.args.args.strokes.now c.args.args.run.limit c.args.args.run.free old c.in-Err.steps
    c.is_sound.ensures c.in_ok-machine.ensures
    (subst (λ (log : List Typed). IsOverfull (code_of old) (world_of_state old) log c.args.args.run.limit c.in-Err.steps)
    c.as_slice.ensures.keys c.in-Err.ensures.full)
