use Rattle.std.proofs.Common.{◌≡◌, ◌+◌, ◌-◌, ◌<◌, ℕ, Bool, false, arith, sym, ap, ◌∙◌}
use Rattle.a2_burst.specs.Shown.{Shown}
use Rattle.a2_machine.specs.State.{Device}
use Rattle.a2_history.specs.Going.{shown_on}
use Rattle.a2_history.proofs.Leaping.{none-watched, unseen, unseen-end, gone-further, gone-unseen, gone-on}
use Rattle.a2_history.proofs.history.run_in_bursts.Goals as goal
use Rattle.a2_history.proofs.history.run_in_bursts.Goals.{then-watcher+in_default-replay_one_by_one, else-watcher+else-is_found_in}

pub returns-in-Some-replay_one_by_one-clause-gone : goal.returns-in-Some-replay_one_by_one-clause-gone
returns-in-Some-replay_one_by_one-clause-gone g c =
    let seen = g.S.SearchTarget.is_found_in c.args.sight.now in
    let start = c.args.machine.now.state.steps in
    let before = c.loop-from.invariant in
    let from = c.loop-from.from in
    let to = c.leap.new.machine.state.steps in
    let here = c.replay_one_by_one.new.machine.state.steps in
    gone-on seen c.args.course.now start from c.args.end here _ before.further before.passed
    (gone-further seen c.args.course.now from to c.args.end here c.in-Some-replay_one_by_one.halt c.in_default.ensures.within c.in-Some-replay_one_by_one.ensures.gone)

pub returns-then-is_found_in-clause-on : goal.returns-then-is_found_in-clause-on
returns-then-is_found_in-clause-on g c = c.in_default.ensures.on

pub returns-then-is_found_in-clause-kept : goal.returns-then-is_found_in-clause-kept
returns-then-is_found_in-clause-kept g c = c.keep.ensures c.args.course.now c.in_default.ensures.on c.loop-from.invariant.kept

pub returns-then-is_found_in-clause-gone : goal.returns-then-is_found_in-clause-gone
returns-then-is_found_in-clause-gone g c =
    let course = c.args.course.now in
    let seen = g.S.SearchTarget.is_found_in c.args.sight.now in
    let start = c.args.machine.now.state.steps in
    let before = c.loop-from.invariant in
    let leap = c.in_default.ensures in
    let begun = c.loop-from.machine.state.steps in
    let to = c.leap.new.machine.state.steps in
    let alarms : Shown → Bool = g.L.Lookout.alarms c.args.lookout.now in
    let calm : (k : ℕ) → k < to - begun → alarms (shown_on course (begun + k)) ≡ false =
    none-watched g.L.Lookout.alarms (λ k. shown_on course (begun + k)) _ _ (to - begun) leap.seen c.if-watcher.false in
    record {
      ahead = omega (arith, before.further, before.steps, leap.ahead);
      within = leap.within;
      passed = unseen seen alarms course start begun to c.requires.warns (omega (arith, before.further, before.steps))
          (λ j a b. before.passed j a (omega (arith, b, before.steps))) leap.on.went leap.quiet calm;
      why_is = (
        omega (arith, before.further, before.steps, leap.ahead),
        sym (c.is_found_in.ensures ∙ ap seen leap.on.world) ∙ c.if-is_found_in.true,
      );
    }

pub loop-from-preserved : goal.loop-from-preserved
loop-from-preserved g c =
    let course = c.args.course.now in
    let seen = g.S.SearchTarget.is_found_in c.args.sight.now in
    let start = c.args.machine.now.state.steps in
    let before = c.loop-from.invariant in
    let leap = c.in_default.ensures in
    let at = c.steps-from-in-loop-from.ensures in
    let followed = c.follow.ensures in
    let from = c.loop-from.from in
    elim c.if-watcher.branch [
      | then-watcher+in_default-replay_one_by_one w ↦
          let gone = w.in_default-replay_one_by_one.ensures.gone in
          let here = w.replay_one_by_one.new.machine.state.steps in
          let same : c.steps-from-in-loop-from.result ≡ here = at ∙ ap (λ (d : Device). d.state.steps) w.machine-is in
          record {
            on = rw (w.machine-is) w.replay_one_by_one.ensures.on;
            guard = rw (w.machine-is) w.replay_one_by_one.ensures.guard;
            kept = rw (w.checkpoints-is) w.replay_one_by_one.ensures.kept;
            steps = sym at;
            scout = followed.guard ∙ before.scout;
            stayed = followed.on course before.stayed before.on;
            following = omega (arith, same, gone.ahead, followed.following, before.steps);
            further = omega (arith, same, gone.ahead, before.further);
            within = omega (arith, same, gone.within, leap.within);
            passed = λ k l m. gone-unseen seen course start from c.leap.new.machine.state.steps here before.passed gone k l (omega (arith, m, same));
          }
      | else-watcher+else-is_found_in w ↦
          let to = c.leap.new.machine.state.steps in
          let same : c.steps-from-in-loop-from.result ≡ to = at ∙ ap (λ (d : Device). d.state.steps) w.machine-is in
          let begun = c.loop-from.machine.state.steps in
          let alarms : Shown → Bool = g.L.Lookout.alarms c.args.lookout.now in
          let calm : (k : ℕ) → k < to - begun → alarms (shown_on course (begun + k)) ≡ false =
          none-watched g.L.Lookout.alarms (λ k. shown_on course (begun + k)) _ _ (to - begun) leap.seen w.if-watcher.false in
          record {
            on = rw (w.machine-is) leap.on;
            guard = rw (w.machine-is) (c.leap.ensures.guard ∙ before.guard);
            kept = rw (w.checkpoints-is) (w.keep.ensures course leap.on before.kept);
            steps = sym at;
            scout = followed.guard ∙ before.scout;
            stayed = followed.on course before.stayed before.on;
            following = omega (arith, same, followed.following, leap.ahead);
            further = omega (arith, same, before.further, before.steps, leap.ahead);
            within = omega (arith, same, leap.within);
            passed = λ k l m. unseen-end seen course start to
                (unseen seen alarms course start begun to c.requires.warns (omega (arith, before.further, before.steps))
                (λ j a b. before.passed j a (omega (arith, b, before.steps))) leap.on.went leap.quiet calm)
                (ap seen (sym leap.on.world) ∙ sym w.is_found_in.ensures ∙ w.if-is_found_in.false) k l (omega (arith, m, same));
          }
    ]
