use Rattle.a2_scripts.proofs.Scripting.{one-script-refusal, refused-has-none, script-output, one-script-output}
use Rattle.a2_scripts.proofs.laws.a_script_has_one_output.Goals as goal

pub returns : goal.returns
returns c = record { refusal = one-script-refusal; refused = refused-has-none; each = script-output; one = one-script-output }
