use Rattle.std.proofs.Common.{ap, List}
use Rattle.std.proofs.lemmas.Result.{err_from_is_err_and}
use Rattle.a2_stream.proofs.Joined.{Sends-nil}
use Rattle.a2_machine.specs.declared.causes.Cause.{Cause}
use Rattle.a2_profile.specs.Texts.{routines_text}
use Rattle.a2_profile.proofs.source.profile_source_routines.Goals as goal

pub returns-in_err-profile : goal.returns-in_err-profile
returns-in_err-profile g c =
    let fault = err_from_is_err_and c.from_residual.result c.from_residual.ensures.1 in
    rw (fault.1, fault.2) (
      record { program = c.program-program.result.now; is_program = c.program-program.ensures.of_text; is_fault = c.in_err-profile.ensures.refused },
      Sends-nil (g.W.Output.taker c.args.writer.now),
    )

pub returns-in_err-put_routines : goal.returns-in_err-put_routines
returns-in_err-put_routines g c =
    let fault = err_from_is_err_and c.from_residual-in_err-put_routines.result c.from_residual-in_err-put_routines.ensures.1 in
    let program = c.program-program.result.now in
    let totals = c.in_ok-profile.profile in
    rw (fault.1, fault.2) (
      c.in_ok-profile.causes,
      routines_text c.args.style.format c.args.style.name.now program totals c.as_slice.result.now,
      record {
        program = program;
        is_program = c.program-program.ensures.of_text;
        totals = totals;
        is_profile = c.in_ok-profile.ensures.counted;
        output_is = ap (λ (causes : List Cause). routines_text c.args.style.format c.args.style.name.now program totals causes) c.as_slice.ensures.value;
      },
      c.in_err-put_routines.ensures,
    )
