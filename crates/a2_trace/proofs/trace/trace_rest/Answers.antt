use Rattle.std.proofs.Common.{◌∙◌, ◌≤◌, suc, sym, ap, subst, arith, refl}
use Rattle.a2_stream.specs.Stream.{Sends, Breaks}
use Rattle.a2_stream.proofs.Joined.{Sends-nil, Sends-then, Breaks-then, broke}
use Rattle.a2_timed_keys.specs.Rerun.{worlds_of, end_of}
use Rattle.a2_trace.specs.Trace.{skipped}
use Rattle.a2_trace.specs.Traced.{left_after, lines_of}
use Rattle.a2_trace.proofs.Tracing.{byte-is, run-next, steps-next, counted-here, line-here, lines-broken}
use Rattle.a2_trace.proofs.trace.trace_rest.Goals as goal

pub loop-chosen-init : goal.loop-chosen-init
loop-chosen-init g c =
    let here = g.W.Output.taker c.args.writer.now in
    record { run = refl; left = c.requires.left; sent = subst (Sends here here) (sym c.requires.none) (Sends-nil here) }

pub loop-chosen-preserved : goal.loop-chosen-preserved
loop-chosen-preserved g c =
    let choice = c.args.choice.now in
    let f = c.args.rerun.now.run in
    let old = c.loop-chosen.rerun in
    let new = c.make_step.new.rerun in
    let h = c.loop-chosen.invariant in
    let (_, next, chosen_is) = c.in-Some.ensures in
    let before = g.W.Output.taker c.args.writer.now in
    let after = g.W.Output.taker c.put_where.new.writer in
    let count = counted-here choice f old new h.run next c.machine-machine.result.now.state c.machine-machine.ensures.steps c.machine-machine.ensures.world
    c.is_near-near.result c.in-Some.chosen c.is_near-near.ensures chosen_is in
    let line = line-here choice f old new h.run next c.machine-machine.result.now.state c.machine-machine.ensures.steps c.machine-machine.ensures.world
    c.is_near-near.result c.in-Some.chosen c.is_near-near.ensures chosen_is c.machine.result.now.state c.machine.ensures.steps c.machine.ensures.world
    c.loop-chosen.left c.front_where-front.result.now h.left c.front_where-front.ensures in
    record {
      run = run-next choice f old new h.run next;
      left = omega (arith, h.left, count, byte-is c.in-Some.chosen)
          ∙ ap (left_after choice f) (sym (steps-next choice f old new h.run next));
      sent = subst (Sends before after) (line ∙ ap (lines_of choice f) (sym (steps-next choice f old new h.run next)))
          (Sends-then before (g.W.Output.taker c.loop-chosen.writer) after _ _ h.sent c.in_ok-put_where.ensures);
    }

pub returns-in_err-put_where : goal.returns-in_err-put_where
returns-in_err-put_where g c =
    let choice = c.args.choice.now in
    let f = c.args.rerun.now.run in
    let old = c.loop-chosen.rerun in
    let new = c.make_step.new.rerun in
    let h = c.loop-chosen.invariant in
    let (more, next, chosen_is) = c.in-Some.ensures in
    let before = g.W.Output.taker c.args.writer.now in
    let after = g.W.Output.taker c.put_where.new.writer in
    let line = line-here choice f old new h.run next c.machine-machine.result.now.state c.machine-machine.ensures.steps c.machine-machine.ensures.world
    c.is_near-near.result c.in-Some.chosen c.is_near-near.ensures chosen_is c.machine.result.now.state c.machine.ensures.steps c.machine.ensures.world
    c.loop-chosen.left c.front_where-front.result.now h.left c.front_where-front.ensures in
    let last = (end_of f).steps in
    let within : suc old.steps ≤ last = subst (λ r. suc old.steps ≤ (end_of r).steps) h.run (omega (arith, more)) in
    broke before after c.from_residual.result _ c.from_residual.ensures.0
    (lines-broken choice (worlds_of f) (skipped choice (worlds_of f) last) (suc old.steps) last before after within
    (subst (Breaks before after) line (Breaks-then before (g.W.Output.taker c.loop-chosen.writer) after _ _ h.sent c.in_err-put_where.ensures)))
