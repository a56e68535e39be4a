use Rattle.std.proofs.Common.{arith, ◌∙◌}
use Rattle.a2_history.proofs.Histories.{passed-next}
use Rattle.a2_history.proofs.history.run_one_by_one.Goals as goal

pub returns-then-is_found_in-clause-kept : goal.returns-then-is_found_in-clause-kept
returns-then-is_found_in-clause-kept g c = c.keep.ensures c.args.course.now c.in_default.ensures.on c.loop.invariant.kept

pub loop-preserved : goal.loop-preserved
loop-preserved g c =
    record {
      on = c.in_default.ensures.on;
      guard = c.execute_step.ensures.guard ∙ c.loop.invariant.guard;
      kept = c.keep.ensures c.args.course.now c.in_default.ensures.on c.loop.invariant.kept;
      steps = omega (arith, c.in_default.ensures.steps, c.loop.invariant.steps);
      further = omega (arith, c.loop.invariant.further);
      passed = passed-next (g.S.SearchTarget.is_found_in c.args.sight.now) c.args.course.now c.args.machine.now.state.steps c.loop.counter
          c.execute_step.new.machine.state c.is_found_in.result c.loop.invariant.passed c.in_default.ensures.on
          (omega (arith, c.in_default.ensures.steps, c.loop.invariant.steps)) c.is_found_in.ensures c.if-is_found_in.false;
    }
