use Rattle.std.specs.Prelude.{[]}
use Rattle.std.proofs.Common.{◌≡◌, ◌+◌, ◌-◌, ◌≤◌, ℕ, ap, subst, arith}
use Rattle.a2_timed_keys.specs.Rerun.{Rerunning, worlds_of}
use Rattle.a2_trace.specs.Trace.{step_lines}
use Rattle.a2_trace.proofs.Tracing.{count-all, count-before, lines-before, lines-skipped}
use Rattle.a2_trace.proofs.trace.begun.Goals as goal

pub returns-then-is_by_number-clause-none : goal.returns-then-is_by_number-clause-none
returns-then-is_by_number-clause-none g c =
    let worlds = worlds_of c.args.ended.now in
    let choice = c.args.choice.now in
    let n = c.in_ok-rerun.rerun.steps in
    let (only, stores) = c.is_by_number.ensures c.if-is_by_number.true in
    let few : c.unwrap_or.result ≤ c.in_ok-skip.skip = grind (arith, c.try_from.ensures, c.unwrap_or.ensures) in
    let within : n ≤ choice.from - 1 + c.in_ok-skip.skip
    = omega (arith, few, ap (λ (r : Rerunning). r.steps) c.in_ok-rerun.ensures, c.before_first-first.ensures) in
    subst (λ (k : ℕ). step_lines choice k worlds n ≡ []) c.in_ok-skip.ensures (lines-skipped choice worlds only stores c.in_ok-skip.skip n within)

pub returns-then-is_by_number-clause-left : goal.returns-then-is_by_number-clause-left
returns-then-is_by_number-clause-left g c =
    let (only, stores) = c.is_by_number.ensures c.if-is_by_number.true in
    omega (
      arith,
      c.in_ok-skip.ensures,
      count-all c.args.choice.now (worlds_of c.args.ended.now) only stores c.in_ok-rerun.rerun.steps,
      c.steps.ensures,
      c.machine.ensures.steps,
      c.from.ensures,
      c.before_first-first.ensures,
    )

pub returns-clause-none : goal.returns-clause-none
returns-clause-none g c =
    let steps = ap (λ (r : Rerunning). r.steps) c.in_ok-again.ensures in
    lines-before c.args.choice.now (worlds_of c.args.ended.now) _ c.in_ok-again.field-0.steps (omega (arith, steps, c.before_first-first.ensures))

pub returns-clause-left : goal.returns-clause-left
returns-clause-left g c =
    let steps = ap (λ (r : Rerunning). r.steps) c.in_ok-again.ensures in
    omega (
      arith,
      c.in_ok-skip.ensures,
      count-before c.args.choice.now (worlds_of c.args.ended.now) c.in_ok-again.field-0.steps (omega (arith, steps, c.before_first-first.ensures)),
    )
