use Rattle.std.proofs.Common.{◌≡◌, ◌∙◌, ap, sym, map}
use Rattle.a2_text.specs.Lines.{lines}
use Rattle.a2_promise_try.proofs.RunLines.{cases_told}
use Rattle.a2_promise_try.proofs.judging.run_cases.Goals as goal

pub returns : goal.returns
returns c =
    let shown : map (λ x. x.now) c.as_slice-lines.result.now ≡ lines c.args.text.now = ap (map (λ x. x.now)) c.as_slice-lines.ensures.value ∙ c.in_ok-texts.ensures in record {
      run =
          cases_told (lines c.args.text.now) c.as_slice-run.result.now _ _
          (rw (sym shown, c.as_slice-run.ensures.value) c.in_ok-parts.ensures.run) c.cases_or_none.ensures;
    }
