use Rattle.std.proofs.Common.{arith}
use Rattle.std.proofs.lemmas.Result.{err_from_is_err_and}
use Rattle.a2_machine.specs.State.{code_of, world_of_state}
use Rattle.a2_timed_keys.specs.Typed.{IsRunning}
use Rattle.a2_timed_keys.proofs.Running.{running_start, overfull_start, by_own_code, running_part, stopped_part, overfull_part, is_copy, stopped_last}
use Rattle.a2_timed_keys.proofs.ended.run_keeping.Given.{Over}
use Rattle.a2_timed_keys.proofs.ended.run_keeping.Goals as goal
use Rattle.a2_timed_keys.proofs.ended.run_keeping.Goals.{Else-steps-from}

pub returns-then-not-type_due-clause-full : goal.returns-then-not-type_due-clause-full
returns-then-not-type_due-clause-full g c =
    overfull_start c.args.machine.now c.args.typed.now c.args.limit (c.type_due.ensures.full c.if-not-type_due.true)

pub loop-made-init : goal.loop-made-init
loop-made-init g c = record {
  at = running_start c.args.machine.now c.type_due.new.machine c.args.typed.now c.args.limit c.requires.start
      (c.type_due.ensures.typed c.if-not-type_due.false) (c.type_due.ensures.room c.if-not-type_due.false);
  copies = rw (c.new-earlier.ensures.older, c.new-earlier.ensures.newer) (tt, tt);
}

pub returns-in_err-cause-clause-full : goal.returns-in_err-cause-clause-full
returns-in_err-cause-clause-full g c =
    let code = code_of c.args.machine.now.state in
    let start = world_of_state c.args.machine.now.state in
    let at = c.loop-made.invariant.at in
    let fault = err_from_is_err_and c.from_residual.result c.from_residual.ensures.1 in
    rw (fault.1, fault.2)
    (overfull_part code start c.args.typed.now c.args.limit c.loop-made.made c.next_copy-until.result c.loop-made.machine
    c.next_copy-until.ensures.within at _ (c.in_err-cause.ensures.full start
    (by_own_code code start c.args.typed.now c.args.limit c.next_copy-until.result c.loop-made.made c.loop-made.machine
    (omega (arith, c.next_copy-until.ensures.more)) at)))

pub returns-then-steps-from-clause-stopped : goal.returns-then-steps-from-clause-stopped
returns-then-steps-from-clause-stopped g c =
    let code = code_of c.args.machine.now.state in
    let start = world_of_state c.args.machine.now.state in
    let at = c.loop-made.invariant.at in
    stopped_part code start c.args.typed.now c.args.limit c.loop-made.made c.next_copy-until.result c.loop-made.machine
    c.next_copy-until.ensures.within at c.run_on.new.machine.state c.in_ok-cause.cause
    (omega (arith, c.if-steps-from.true, c.steps.ensures, c.from.ensures)) (c.in_ok-cause.ensures.stopped start
    (by_own_code code start c.args.typed.now c.args.limit c.next_copy-until.result c.loop-made.made c.loop-made.machine
    (omega (arith, c.next_copy-until.ensures.more)) at))

pub returns-clause-stopped : goal.returns-clause-stopped
returns-clause-stopped g c =
    stopped_last (code_of c.args.machine.now.state) (world_of_state c.args.machine.now.state) c.args.typed.now c.args.limit c.loop-made.made
    c.loop-made.machine c.run.new.self c.run.result (omega (arith, c.loop-made-test.false)) c.run.ensures c.loop-made.invariant.at

-- the run went on to the steps of the next copy
went_on : (g : Over) (c : Else-steps-from g)
    → IsRunning (code_of c.args.machine.now.state) (world_of_state c.args.machine.now.state) c.args.typed.now c.args.limit c.next_copy-until.result
    c.run_on.new.machine
went_on g c =
    let code = code_of c.args.machine.now.state in
    let start = world_of_state c.args.machine.now.state in
    let at = c.loop-made.invariant.at in
    running_part code start c.args.typed.now c.args.limit c.loop-made.made c.next_copy-until.result c.loop-made.machine
    c.next_copy-until.ensures.within at c.run_on.new.machine (c.in_ok-cause.ensures.came start
    (by_own_code code start c.args.typed.now c.args.limit c.next_copy-until.result c.loop-made.made c.loop-made.machine
    (omega (arith, c.next_copy-until.ensures.more)) at) (omega (arith, c.if-steps-from.false, c.steps.ensures, c.from.ensures)))

pub loop-made-preserved-then-until-limit : goal.loop-made-preserved-then-until-limit
loop-made-preserved-then-until-limit g c =
    let code = code_of c.args.machine.now.state in
    let start = world_of_state c.args.machine.now.state in
    let on = went_on g (goal.at.loop-made-preserved-then-until-limit g c).Else-steps-from in record {
      at = on;
      copies = c.keep.ensures code start c.args.typed.now
          (is_copy code start c.args.typed.now c.args.limit c.next_copy-until.result c.run_on.new.machine on) c.loop-made.invariant.copies;
    }

pub loop-made-preserved : goal.loop-made-preserved
loop-made-preserved g c = record {
  at = went_on g (goal.at.loop-made-preserved g c).Else-steps-from;
  copies = c.loop-made.invariant.copies;
}
