use Rattle.std.proofs.Common.{◌≡◌, ◌∙◌, ap, ℕ, List, map}
use Rattle.std.proofs.lemmas.Result.{err_from_is_err_and}
use Rattle.a2_stream.proofs.Joined.{Sends-nil}
use Rattle.a2_text.specs.Lines.{lines}
use Rattle.a2_machine.specs.declared.causes.Cause.{Cause}
use Rattle.a2_profile.specs.Texts.{profile_text}
use Rattle.a2_profile.proofs.source.profile_source.Goals as goal

pub returns-in_err-texts : goal.returns-in_err-texts
returns-in_err-texts g c =
    let fault = err_from_is_err_and c.from_residual.result c.from_residual.ensures.1 in
    rw (fault.1, fault.2) (
      record { program = c.program-program.result.now; is_program = c.program-program.ensures.of_text; is_fault = tt },
      Sends-nil (g.W.Output.taker c.args.writer.now),
    )

pub returns-in_err-profile : goal.returns-in_err-profile
returns-in_err-profile g c =
    let fault = err_from_is_err_and c.from_residual-in_err-profile.result c.from_residual-in_err-profile.ensures.1 in
    rw (fault.1, fault.2) (
      record { program = c.program-program.result.now; is_program = c.program-program.ensures.of_text; is_fault = c.in_err-profile.ensures.refused },
      Sends-nil (g.W.Output.taker c.args.writer.now),
    )

pub returns-in_err-put_profile : goal.returns-in_err-put_profile
returns-in_err-put_profile g c =
    let fault = err_from_is_err_and c.from_residual-in_err-put_profile.result c.from_residual-in_err-put_profile.ensures.1 in
    let program = c.program-program.result.now in
    let counts = c.in_ok-profile.profile in
    let shown : map (λ x. x.now) c.as_slice-lines.result.now ≡ lines c.args.assembled.now.text = ap (map (λ x. x.now)) c.as_slice-lines.ensures.value ∙ c.in_ok-texts.ensures ∙ ap lines c.text.ensures in
    rw (fault.1, fault.2) (
      c.in_ok-profile.causes,
      profile_text c.args.style.format c.args.style.name.now program (map (λ x. x.now) c.as_slice-lines.result.now) counts c.as_slice-ends.result.now,
      record {
        program = program;
        is_program = c.program-program.ensures.of_text;
        counts = counts;
        is_profile = c.in_ok-profile.ensures.counted;
        output_is =
            ap (λ (texts : List (List ℕ)). profile_text c.args.style.format c.args.style.name.now program texts counts c.as_slice-ends.result.now) shown
            ∙ ap (λ (causes : List Cause). profile_text c.args.style.format c.args.style.name.now program (lines c.args.assembled.now.text) counts causes) c.as_slice-ends.ensures.value;
      },
      c.in_err-put_profile.ensures,
    )
