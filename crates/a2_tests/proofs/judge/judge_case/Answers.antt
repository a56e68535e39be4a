use Rattle.std.proofs.Common.{◌≡◌, ◌∙◌, ap, sym, subst, List, ℕ, Option, IfOk}
use Rattle.a2_tests.specs.declared.line.Call.{Call}
use Rattle.a2_tests.specs.declared.line.NumberedLine.{NumberedLine}
use Rattle.a2_tests.specs.Calls.{case_text, text_of}
use Rattle.a2_tests.specs.Judging.{IsVerdictOf}
use Rattle.a2_tests.proofs.judge.judge_case.Goals as goal

pub returns-in_ok-text-in-Some : goal.returns-in_ok-text-in-Some
returns-in_ok-text-in-Some g c =
    let source = c.args.source.now in
    let same : c.as_slice-in-Some.result.now ≡ case_text c.args.case.now.lines.items source =
    c.as_slice-in-Some.ensures.value
    ∙ (c.in_ok-text-in-Some.ensures ∙ ap (λ (call : Option Call). text_of call source) (sym c.in-Some.is ∙ c.call_in.ensures))
    ∙ ap (λ (lines : List NumberedLine). case_text lines source) c.as_slice.ensures.value in
    subst (λ (text : List ℕ). IfOk c.judge_call.result (λ verdict. IsVerdictOf c.args.case.now text c.args.program.now verdict)) same c.judge_call.ensures
