use Rattle.std.proofs.Common.{◌+◌, arith, subst, sym, ap, ◌∙◌}
use Rattle.a2_history.specs.Courses.{world_on}
use Rattle.a2_history.specs.Routines.{IsNewestOutside}
use Rattle.a2_history.proofs.Ways.{on-way}
use Rattle.a2_routines.proofs.Along.{entered-start, entered-next}
use Rattle.a2_history.proofs.Routes.{outside-start, outside-here, outside-before}
use Rattle.a2_history.proofs.routines.routines_up_to.Goals.{then-len-most, else-len-most}
use Rattle.a2_history.proofs.routines.routines_up_to.Goals as goal

pub loop-position-init : goal.loop-position-init
loop-position-init g c = record {
  on = c.restart.ensures.on;
  steps = c.restart.ensures.steps;
  guard = c.restart.ensures.guard;
  entered = entered-start (world_on c.args.course.now) c.new-entries.result.items c.new-entries.ensures.items;
  outside = outside-start c.args.course.now c.args.most;
}

pub loop-position-preserved : goal.loop-position-preserved
loop-position-preserved g c =
    let course = c.args.course.now in
    let before = c.loop-position.invariant in
    let n = c.loop-position.position in
    let made = on-way course c.args.end c.loop-position.scout c.execute_step.new.machine c.execute_step.result before.on
    (omega (arith, before.steps, c.loop-position-test.true)) c.requires.went c.execute_step.ensures.on c.execute_step.ensures.steps c.execute_step.ensures.stuck in
    record {
      on = made.0;
      steps = omega (arith, made.1, before.steps);
      guard = c.execute_step.ensures.guard ∙ before.guard;
      entered = entered-next (world_on course) n c.loop-position.entries.items c.enter.new.entries.items c.leave.new.entries.items _ _ _ before.entered
          c.in_ok-enter.ensures before.steps (before.on.world ∙ ap (world_on course) before.steps) c.leave.ensures
          (made.0.world ∙ ap (world_on course) (omega (arith, made.1, before.steps)));
      outside = elim c.if-len-most.branch [
        | then-len-most w ↦ subst (λ f. IsNewestOutside course c.args.most (n + 1) f) (sym w.outside-is)
            (outside-here course c.args.most n c.loop-position.entries.items before.entered (omega (arith, w.if-len-most.true, c.len.ensures)))
        | else-len-most w ↦ subst (λ f. IsNewestOutside course c.args.most (n + 1) f) (sym w.outside-is)
            (outside-before course c.args.most n c.loop-position.entries.items c.loop-position.outside before.entered
            (omega (arith, w.if-len-most.false, c.len.ensures)) before.outside)
      ];
    }

pub returns-clause-outside : goal.returns-clause-outside
returns-clause-outside g c = subst (λ n. IsNewestOutside c.args.course.now c.args.most n c.loop-position.outside)
    (omega (arith, c.loop-position-test.false, c.loop-position.auto.position-end)) c.loop-position.invariant.outside
