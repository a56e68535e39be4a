use Rattle.std.proofs.Common.{◌≡◌, ◌+◌, arith, ap, sym, ◌∙◌, subst}
use Rattle.a2_history.specs.Courses.{world_on}
use Rattle.a2_history.specs.Going.{IsNewest}
use Rattle.a2_history.proofs.Ways.{on-way, newest-next}
use Rattle.a2_history.proofs.course.Course.newest_seen.Goals as goal

pub loop-position-preserved : goal.loop-position-preserved
loop-position-preserved g c =
    let course = c.args.self.now in
    let seen = g.S.SearchTarget.is_found_in c.args.sight.now in
    let before = c.loop-position.invariant in
    let from = c.args.machine.now.state.steps in
    let n = c.loop-position.position in
    let made = on-way course c.args.end c.loop-position.machine c.execute_step.new.machine c.execute_step.result before.on
    (omega (arith, before.steps, c.loop-position-test.true)) c.requires.went c.execute_step.ensures.on c.execute_step.ensures.steps c.execute_step.ensures.stuck in
    let here : seen (world_on course n) ≡ c.is_found_in.result = sym (c.is_found_in.ensures ∙ ap seen (before.on.world ∙ ap (world_on course) before.steps)) in
    record {
      on = made.0;
      steps = omega (arith, made.1, before.steps);
      guard = c.execute_step.ensures.guard ∙ before.guard;
      further = omega (arith, before.further);
      newest = subst (λ f. IsNewest seen course from (n + 1) f) (sym c.newer-found.ensures)
          (newest-next seen course from n c.loop-position.found c.is_found_in.result before.newest before.further here);
    }
