use Rattle.std.proofs.Common.{◌∙◌, ◌≤◌, suc, sym, ap, subst, arith}
use Rattle.a2_machine.specs.State.{Device}
use Rattle.a2_timed_keys.specs.Finished.{Finished}
use Rattle.a2_timed_keys.specs.Rerun.{worlds_of, end_of}
use Rattle.a2_trace.specs.Trace.{count_chosen}
use Rattle.a2_trace.proofs.Tracing.{byte-is, run-next, steps-next, counted-here, count-most, one-at-most}
use Rattle.a2_trace.proofs.trace.count_rest.Goals as goal

pub loop-chosen-init : goal.loop-chosen-init
loop-chosen-init g c =
    record { run = c.requires.run; count = sym c.requires.none }

pub loop-chosen-preserved : goal.loop-chosen-preserved
loop-chosen-preserved g c =
    let choice = c.args.choice.now in
    let f = c.args.ended.now in
    let old = c.loop-chosen.rerun in
    let new = c.make_step.new.rerun in
    let h = c.loop-chosen.invariant in
    let (_, next, chosen_is) = c.in-Some.ensures in
    let count = counted-here choice f old new h.run next c.machine-in-loop-chosen.result.now.state c.machine-in-loop-chosen.ensures.steps c.machine-in-loop-chosen.ensures.world
    c.is_near-near.result c.in-Some.chosen c.is_near-near.ensures chosen_is in
    record {
      run = run-next choice f old new h.run next;
      count = omega (arith, h.count, count, c.from-count.ensures, byte-is c.in-Some.chosen)
          ∙ ap (count_chosen choice (worlds_of f)) (sym (steps-next choice f old new h.run next));
    }

pub overflow_add-count : goal.overflow_add-count
overflow_add-count g c =
    let f = c.args.ended.now in
    let n = c.loop-chosen.rerun.steps in
    let h = c.loop-chosen.invariant in
    let (more, _, _) = c.in-Some.ensures in
    let within : suc n ≤ (end_of f).steps = subst (λ (r : Finished). suc n ≤ (end_of r).steps) h.run (omega (arith, more)) in
    omega (
      arith,
      within,
      h.count,
      count-most c.args.choice.now (worlds_of f) n,
      c.from-count.ensures,
      byte-is c.in-Some.chosen,
      one-at-most c.in-Some.chosen,
      c.steps.type_inv,
      c.steps.ensures,
      ap (λ (d : Device). d.state.steps) c.machine.ensures,
    )
