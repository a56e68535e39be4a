use Rattle.a2_run.proofs.OneText.{one-cause, one-output, one-object-text}
use Rattle.a2_run.proofs.EachText.{program-runs, program-written}
use Rattle.a2_run.proofs.laws.a_text_means_one_output.Goals as goal

pub returns : goal.returns
returns c = record { runs = program-runs; cause = one-cause; output = one-output; written = program-written; object_text = one-object-text }
