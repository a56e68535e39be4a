use Rattle.std.proofs.Common.{◌≡◌, ◌∙◌, ◌-◌, ℕ, length, ap, arith}
use Rattle.a2_machine.specs.Looks.{observer_after}
use Rattle.a2_machine.specs.State.{code_of}
use Rattle.a2_timed_keys.specs.Typed.{keys_at, world_with_keys}
use Rattle.a2_timed_keys.specs.Rerun.{shown_from}
use Rattle.a2_timed_keys.proofs.Running.{came_last, running_on, overfull_on, stopped, stopped_last}
use Rattle.a2_timed_keys.proofs.Seeing.{none_seen, seen_on}
use Rattle.a2_timed_keys.proofs.run.run_on_observed.Goals as goal

pub loop-made-init : goal.loop-made-init
loop-made-init g c = record {
  more = omega arith;
  at = λ start at. at;
  shown = λ start at. none_seen g.O.Observer.seen (shown_from (world_with_keys (code_of c.args.machine.now.state) start c.args.typed.now) c.args.begun)
      c.args.observer.now (c.args.begun - c.args.begun) (omega arith);
}

pub returns-then-steps-due-clause-stopped : goal.returns-then-steps-due-clause-stopped
returns-then-steps-due-clause-stopped g c = λ start at.
    stopped (code_of c.args.machine.now.state) start c.args.typed.now c.args.limit c.loop-made.made
    c.due_within-until.result c.loop-made.machine c.run_observed-cause.new.self c.run_observed-cause.result c.ranges.limit.fits c.due_within-until.ensures.more
    c.due_within-until.ensures.within c.due_within-until.ensures.none c.run_observed-cause.ensures.run (c.loop-made.invariant.at start at)
    (omega (arith, c.if-steps-due.true, c.steps.ensures, c.from-due.ensures))

pub returns-then-steps-due-clause-came : goal.returns-then-steps-due-clause-came
returns-then-steps-due-clause-came g c = λ start at past.
    absurd (omega (arith, past, c.due_within-until.ensures.within, c.if-steps-due.true, c.steps.ensures, c.from-due.ensures))

pub returns-then-steps-due-clause-seen : goal.returns-then-steps-due-clause-seen
returns-then-steps-due-clause-seen g c = λ start at.
    seen_on g.O.Observer.seen (code_of c.args.machine.now.state) start c.args.typed.now c.args.limit c.args.begun c.loop-made.made
    c.due_within-until.result c.loop-made.machine c.run_observed-cause.new.self c.run_observed-cause.result c.loop-made.invariant.more
    c.due_within-until.ensures.none c.run_observed-cause.ensures.run (c.loop-made.invariant.at start at) c.args.observer.now c.loop-made.observer
    c.run_observed-cause.new.observer (c.loop-made.invariant.shown start at) c.run_observed-cause.ensures.seen

pub returns-then-not-type_due-clause-full : goal.returns-then-not-type_due-clause-full
returns-then-not-type_due-clause-full g c = λ start at.
    overfull_on (code_of c.args.machine.now.state) start c.args.typed.now c.args.limit c.loop-made.made
    c.due_within-until.result c.loop-made.machine c.run_observed-cause.new.self c.run_observed-cause.result c.ranges.limit.fits c.due_within-until.ensures.more
    c.due_within-until.ensures.within c.due_within-until.ensures.none c.run_observed-cause.ensures.run (c.loop-made.invariant.at start at)
    c.from-due.result c.from-due.ensures (omega (arith, c.if-steps-due.false, c.steps.ensures))
    (c.type_due.ensures.full c.if-not-type_due.true)

pub returns-then-not-type_due-clause-some : goal.returns-then-not-type_due-clause-some
returns-then-not-type_due-clause-some g c = λ none.
    let no_key : length (keys_at c.args.typed.now c.from-due.result) ≡ 0 = ap (λ l. length l) none in
    omega (arith, no_key, c.type_due.ensures.before, c.type_due.ensures.full c.if-not-type_due.true)

pub loop-made-preserved : goal.loop-made-preserved
loop-made-preserved g c = record {
  more = omega (arith, c.loop-made.invariant.more, c.due_within-until.ensures.more);
  at = λ start at.
      running_on (code_of c.args.machine.now.state) start c.args.typed.now c.args.limit c.loop-made.made
      c.due_within-until.result c.loop-made.machine c.run_observed-cause.new.self c.run_observed-cause.result c.ranges.limit.fits c.due_within-until.ensures.more
      c.due_within-until.ensures.within c.due_within-until.ensures.none c.run_observed-cause.ensures.run (c.loop-made.invariant.at start at)
      c.type_due.new.machine c.from-due.result c.from-due.ensures (omega (arith, c.if-steps-due.false, c.steps.ensures))
      (c.type_due.ensures.typed c.if-not-type_due.false) (c.type_due.ensures.room c.if-not-type_due.false);
  shown = λ start at.
      let was = c.loop-made.invariant.at start at in
      let run = c.run_observed-cause.ensures.run in
      let steps : c.run_observed-cause.new.self.state.steps ≡ c.due_within-until.result
      = omega (arith, c.if-steps-due.false, c.steps.ensures, c.from-due.ensures, c.due_within-until.ensures.more, was.steps, run.more, run.end.within) in
      seen_on g.O.Observer.seen (code_of c.args.machine.now.state) start c.args.typed.now c.args.limit c.args.begun c.loop-made.made
      c.due_within-until.result c.loop-made.machine c.run_observed-cause.new.self c.run_observed-cause.result c.loop-made.invariant.more
      c.due_within-until.ensures.none run was c.args.observer.now c.loop-made.observer c.run_observed-cause.new.observer
      (c.loop-made.invariant.shown start at) c.run_observed-cause.ensures.seen
      ∙ ap (λ (n : ℕ). observer_after g.O.Observer.seen (shown_from (world_with_keys (code_of c.args.machine.now.state) start c.args.typed.now) c.args.begun)
      c.args.observer.now (n - c.args.begun)) steps;
}

pub returns-clause-stopped : goal.returns-clause-stopped
returns-clause-stopped g c = λ start at.
    stopped_last (code_of c.args.machine.now.state) start c.args.typed.now c.args.limit c.loop-made.made c.loop-made.machine c.run.new.self
    c.run.result (omega (arith, c.loop-made-test.false)) c.run.ensures (c.loop-made.invariant.at start at)

pub returns-clause-came : goal.returns-clause-came
returns-clause-came g c = λ start at past.
    came_last (code_of c.args.machine.now.state) start c.args.typed.now c.args.limit c.loop-made.made c.loop-made.machine c.run.new.self
    c.run.result (omega (arith, c.loop-made-test.false)) c.run.ensures (c.loop-made.invariant.at start at)

pub returns-clause-seen : goal.returns-clause-seen
returns-clause-seen g c = λ start at.
    let steps : c.loop-made.made ≡ c.run.new.self.state.steps
    = omega (arith, (c.loop-made.invariant.at start at).steps, c.run.ensures.more, c.run.ensures.end.within) in
    c.loop-made.invariant.shown start at
    ∙ ap (λ (n : ℕ). observer_after g.O.Observer.seen (shown_from (world_with_keys (code_of c.args.machine.now.state) start c.args.typed.now) c.args.begun)
    c.args.observer.now (n - c.args.begun)) steps
