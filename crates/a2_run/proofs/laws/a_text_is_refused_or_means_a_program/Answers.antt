use Rattle.a2_run.proofs.OneText.{first-refusal-one, refused-no-program, refused-no-run, refused-no-lines}
use Rattle.a2_run.proofs.EachText.{refused-or-program}
use Rattle.a2_run.proofs.laws.a_text_is_refused_or_means_a_program.Goals as goal

pub returns : goal.returns
returns c = record {
  one = first-refusal-one;
  no_program = refused-no-program;
  no_run = refused-no-run;
  no_lines = refused-no-lines;
  either = refused-or-program;
}
