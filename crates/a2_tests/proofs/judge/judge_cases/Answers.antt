use Rattle.std.proofs.Common.{sym}
use Rattle.std.proofs.lemmas.List.{take_more}
use Rattle.a2_tests.proofs.Verdicts.{one-more}
use Rattle.a2_tests.proofs.judge.judge_cases.Goals as goal

pub loop-case-preserved : goal.loop-case-preserved
loop-case-preserved g c =
    let case = c.case-item.result in
    let verdict = c.in_ok-judge_case.field-0 in
    rw (c.in_ok-push.ensures.items, take_more c.args.cases.now c.loop-case.case-index case c.loop-case-test.true, sym c.case-item.is)
    (one-more c.args.source.now c.args.program.now _ case c.loop-case.verdicts.items verdict c.loop-case.invariant c.in_ok-judge_case.ensures)
