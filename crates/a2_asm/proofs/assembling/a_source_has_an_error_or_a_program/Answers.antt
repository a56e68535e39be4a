use Rattle.a2_asm.proofs.MadeLaws.{one-layout_error, refused-no-program, programs-alike}
use Rattle.a2_asm.proofs.EachProgram.{refused-or-program}
use Rattle.a2_asm.proofs.assembling.a_source_has_an_error_or_a_program.Goals as goal

pub returns-clause-either : goal.returns-clause-either
returns-clause-either c = refused-or-program

pub returns-clause-not_both : goal.returns-clause-not_both
returns-clause-not_both c = refused-no-program

pub returns-clause-one_refusal : goal.returns-clause-one_refusal
returns-clause-one_refusal c = one-layout_error

pub returns-clause-one_program : goal.returns-clause-one_program
returns-clause-one_program c = programs-alike
