use Rattle.std.proofs.Common.{◌+◌, ◌≤◌, ◌⊎◌, inl, inr, arith, subst, sym}
use Rattle.a2_play.proofs.Remade.{IsSeeking, seeking_on, sought}
use Rattle.a2_play.proofs.replayed_run.seek.Goals as goal
use Rattle.a2_play.proofs.replayed_run.seek.Goals.{then-made-end-via-then-made-end, then-made-end-via-else-made-end+then-cycles-goal}

pub loop-preserved : goal.loop-preserved
loop-preserved g c = λ program at slower.
    let log = c.args.log.now in
    let seeking = c.loop.invariant program at slower in
    let (again, on, near) = c.run_on.ensures program c.args.end seeking.again (omega (arith, c.min.ensures, c.if-made-end.false)) in
    subst (λ n. IsSeeking program log c.args.goal c.args.end c.args.piece (c.loop.counter + 1) n c.run_on.new.machine.state) (sym c.steps-made.ensures)
    (seeking_on program log c.args.goal c.args.end c.args.piece c.loop.counter c.loop.before c.loop.machine.state c.run_on.new.machine.state seeking
    (omega (arith, c.if-cycles-goal.false, c.cycles.ensures)) again on (omega (arith, near, c.min.ensures, c.steps-made.ensures)))

pub returns-after-loop : goal.returns-after-loop
returns-after-loop g c = λ program at slower enough.
    let seeking = c.loop.invariant program at slower in
    sought program c.args.log.now c.args.goal c.args.end c.args.piece c.loop.counter c.loop.before c.loop.machine.state seeking enough
    (inl (omega (arith, c.loop-test.false, seeking.index)))

pub returns-then-made-end : goal.returns-then-made-end
returns-then-made-end g c = λ program at slower enough.
    let seeking = c.loop.invariant program at slower in
    let found : (c.args.end ≤ c.loop.machine.state.steps) ⊎ (c.args.goal ≤ c.loop.machine.state.cycles) = elim c.then-made-end.branch [
      | then-made-end-via-then-made-end w ↦ inl (omega (arith, w.if-made-end.true, c.steps-made.ensures))
      | then-made-end-via-else-made-end+then-cycles-goal w ↦ inr (omega (arith, w.if-cycles-goal.true, w.cycles.ensures))
    ] in
    sought program c.args.log.now c.args.goal c.args.end c.args.piece c.loop.counter c.loop.before c.loop.machine.state seeking enough found
