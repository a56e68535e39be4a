use Rattle.std.proofs.Common.{ap, arith}
use Rattle.a2_machine.specs.State.{Device}
use Rattle.a2_timed_keys.specs.Rerun.{Rerunning, worlds_of, end_of}
use Rattle.a2_trace.proofs.Tracing.{count-all, count-before}
use Rattle.a2_trace.proofs.trace.count_chosen.Goals as goal

pub returns-then-is_by_number : goal.returns-then-is_by_number
returns-then-is_by_number g c =
    let f = c.args.ended.now in
    let (only, stores) = c.is_by_number.ensures c.if-is_by_number.true in
    omega (
      arith,
      count-all c.args.choice.now (worlds_of f) only stores (end_of f).steps,
      c.before_first-first.ensures,
      c.steps.ensures,
      ap (λ (d : Device). d.state.steps) c.machine.ensures,
      c.from.ensures,
    )

pub count_rest-requires-clause-none : goal.count_rest-requires-clause-none
count_rest-requires-clause-none g c =
    let steps = ap (λ (r : Rerunning). r.steps) c.in_ok-rerun.ensures in
    count-before c.args.choice.now (worlds_of c.args.ended.now) c.in_ok-rerun.rerun.steps (omega (arith, steps, c.before_first-first.ensures))
