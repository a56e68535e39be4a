use Rattle.std.proofs.Common.{◌≡◌, ◌∙◌, ap, sym, map}
use Rattle.a2_text.specs.Lines.{lines}
use Rattle.a2_promise_try.proofs.judging.judge_all.Goals as goal

pub found_in-requires : goal.found_in-requires
found_in-requires g c =
    let shown : map (λ x. x.now) c.as_slice-lines.result.now ≡ lines c.args.assembled.now.text = ap (map (λ x. x.now)) c.as_slice-lines.ensures.value ∙ c.in_ok-texts.ensures ∙ ap lines c.text.ensures in
    rw (sym shown, c.as_slice-others.ensures.value) c.in_ok-parts.ensures.others
