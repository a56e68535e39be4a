use Rattle.std.proofs.Common.{◌≡◌, ◌+◌, ◌-◌, ◌<◌, ◌++◌, ◌∙◌, ℕ, List, sym, ap, subst, arith, length, drop, get_or, drop_of_length-le}
use Rattle.a2_stream.specs.Stream.{Sends, Breaks}
use Rattle.a2_stream.proofs.Joined.{Sends-nil, Sends-then, Breaks-then, Breaks-more, broke}
use Rattle.a2_trace.specs.Calls.{left_rows}
use Rattle.a2_trace.proofs.Drawing.{no_visit, row, left-next, left-none, left-rest}
use Rattle.a2_trace.proofs.calls.put_left.Goals as goal

pub loop-depth-init : goal.loop-depth-init
loop-depth-init g c =
    let here = g.W.Output.taker c.args.writer.now in
    let all = c.as_slice-all.result.now in
    let d = c.args.machine.now.state in
    subst (Sends here here) (sym (left-none c.args.s c.args.program.now d.steps d.cycles all (length all) (drop_of_length-le all (omega arith)))) (Sends-nil here)

pub loop-depth-preserved : goal.loop-depth-preserved
loop-depth-preserved g c =
    let before = g.W.Output.taker c.args.writer.now in
    let after = g.W.Output.taker c.put_back.new.writer in
    let all = c.as_slice-all.result.now in
    let d = c.args.machine.now.state in
    let k = c.loop-depth.depth - 1 in
    let more : k + 1 ≡ c.loop-depth.depth = omega (arith, c.loop-depth-test.true) in
    let here = row c.args.s c.args.program.now d.steps d.cycles k (get_or all k no_visit) in
    subst (Sends before after)
    (ap (λ (n : ℕ). left_rows c.args.s c.args.program.now d.steps d.cycles n (drop n all) ++ here) (sym more)
    ∙ sym (left-next c.args.s c.args.program.now d.steps d.cycles all k no_visit (omega (arith, c.loop-depth-test.true, c.loop-depth.auto.depth))))
    (Sends-then before (g.W.Output.taker c.loop-depth.writer) after _ _ c.loop-depth.invariant c.in_ok-put_back.ensures)

pub returns-in_err-put_back : goal.returns-in_err-put_back
returns-in_err-put_back g c =
    let before = g.W.Output.taker c.args.writer.now in
    let after = g.W.Output.taker c.put_back.new.writer in
    let all = c.as_slice-all.result.now in
    let d = c.args.machine.now.state in
    let k = c.loop-depth.depth - 1 in
    let more : k + 1 ≡ c.loop-depth.depth = omega (arith, c.loop-depth-test.true) in
    let low : k < length all = omega (arith, c.loop-depth-test.true, c.loop-depth.auto.depth) in
    let (rest, is) = left-rest c.args.s c.args.program.now d.steps d.cycles all k (omega (arith, low)) in
    let cut = Breaks-then before (g.W.Output.taker c.loop-depth.writer) after _ _ c.loop-depth.invariant c.in_err-put_back.ensures in
    let here = row c.args.s c.args.program.now d.steps d.cycles k (get_or all k no_visit) in
    let sent = subst (Breaks before after)
    (ap (λ (n : ℕ). left_rows c.args.s c.args.program.now d.steps d.cycles n (drop n all) ++ here) (sym more)
    ∙ sym (left-next c.args.s c.args.program.now d.steps d.cycles all k no_visit low)) cut in
    broke before after c.from_residual.result _ c.from_residual.ensures.0
    (subst (λ (l : List _). Breaks before after (left_rows c.args.s c.args.program.now d.steps d.cycles 0 l)) c.as_slice-all.ensures.value
    (subst (Breaks before after) (sym is) (Breaks-more before after _ rest sent)))
