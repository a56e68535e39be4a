use Rattle.std.proofs.Common.{arith}
use Rattle.a2_machine.specs.State.{code_of}
use Rattle.a2_timed_keys.proofs.Running.{came_last, running_on, overfull_on, stopped, stopped_last}
use Rattle.a2_timed_keys.proofs.run.run_on.Goals as goal

pub loop-made-init : goal.loop-made-init
loop-made-init g c = λ start at. at

pub returns-then-steps-due-clause-stopped : goal.returns-then-steps-due-clause-stopped
returns-then-steps-due-clause-stopped g c = λ start at.
    stopped (code_of c.args.machine.now.state) start c.args.typed.now c.args.limit c.loop-made.made
    c.due_within-until.result c.loop-made.machine c.run-cause.new.self c.run-cause.result c.ranges.limit.fits c.due_within-until.ensures.more
    c.due_within-until.ensures.within c.due_within-until.ensures.none c.run-cause.ensures (c.loop-made.invariant start at)
    (omega (arith, c.if-steps-due.true, c.steps.ensures, c.from-due.ensures))

pub returns-then-steps-due-clause-came : goal.returns-then-steps-due-clause-came
returns-then-steps-due-clause-came g c = λ start at past.
    absurd (omega (arith, past, c.due_within-until.ensures.within, c.if-steps-due.true, c.steps.ensures, c.from-due.ensures))

pub returns-then-not-type_due-clause-full : goal.returns-then-not-type_due-clause-full
returns-then-not-type_due-clause-full g c = λ start at.
    overfull_on (code_of c.args.machine.now.state) start c.args.typed.now c.args.limit c.loop-made.made
    c.due_within-until.result c.loop-made.machine c.run-cause.new.self c.run-cause.result c.ranges.limit.fits c.due_within-until.ensures.more
    c.due_within-until.ensures.within c.due_within-until.ensures.none c.run-cause.ensures (c.loop-made.invariant start at)
    c.from-due.result c.from-due.ensures (omega (arith, c.if-steps-due.false, c.steps.ensures))
    (c.type_due.ensures.full c.if-not-type_due.true)

pub loop-made-preserved : goal.loop-made-preserved
loop-made-preserved g c = λ start at.
    running_on (code_of c.args.machine.now.state) start c.args.typed.now c.args.limit c.loop-made.made
    c.due_within-until.result c.loop-made.machine c.run-cause.new.self c.run-cause.result c.ranges.limit.fits c.due_within-until.ensures.more
    c.due_within-until.ensures.within c.due_within-until.ensures.none c.run-cause.ensures (c.loop-made.invariant start at)
    c.type_due.new.machine c.from-due.result c.from-due.ensures (omega (arith, c.if-steps-due.false, c.steps.ensures))
    (c.type_due.ensures.typed c.if-not-type_due.false) (c.type_due.ensures.room c.if-not-type_due.false)

pub returns-clause-stopped : goal.returns-clause-stopped
returns-clause-stopped g c = λ start at.
    stopped_last (code_of c.args.machine.now.state) start c.args.typed.now c.args.limit c.loop-made.made c.loop-made.machine c.run.new.self
    c.run.result (omega (arith, c.loop-made-test.false)) c.run.ensures (c.loop-made.invariant start at)

pub returns-clause-came : goal.returns-clause-came
returns-clause-came g c = λ start at past.
    came_last (code_of c.args.machine.now.state) start c.args.typed.now c.args.limit c.loop-made.made c.loop-made.machine c.run.new.self
    c.run.result (omega (arith, c.loop-made-test.false)) c.run.ensures (c.loop-made.invariant start at)
