-- Each text has an error or a program, and each program has its run and its object lines.
use Rattle.std.proofs.Common.{refl, inl, inr}
use Rattle.a2_hex.specs.Images.{held}
use Rattle.a2_hex.specs.ObjectText.{object_text}
use Rattle.a2_syntax.proofs.EachReading.{some-reading}
use Rattle.a2_asm.proofs.EachProgram as asm
use Rattle.a2_machine.proofs.RunFrom.{run_from}
use Rattle.a2_machine.proofs.Runs.{run-is_end}
use Rattle.a2_run.specs.Meaning.{code_of_run, start_of_run, output_of}
use Rattle.a2_run.specs.Laws.{RefusedOrProgram, EachProgramRuns, EachProgramHasObjectLines}

pub refused-or-program : RefusedOrProgram
refused-or-program text unrefused nothing =
    some-reading text (λ source is.
    let made = asm.refused-or-program source (λ fault refused. unrefused fault (inr (source, is, refused))) in
    nothing made.0 (record { source = source; is_source = is; is_program = made.1 })) (λ fault is. unrefused fault (inl is))

pub program-runs : EachProgramRuns
program-runs text keys limit options program is =
    let end = run_from (code_of_run options.free program) (start_of_run program keys) 0 limit in (
      end.cause,
      output_of options.attr end,
      record {
        program = program;
        is_program = is;
        end = end;
        is_end = run-is_end _ _ limit;
        cause_is = refl;
        output_is = refl;
      },
    )

pub program-written : EachProgramHasObjectLines
program-written text program is = (object_text (held program.image), record { program = program; is_program = is; output_is = refl })
