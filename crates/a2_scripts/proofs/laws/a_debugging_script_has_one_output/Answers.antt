use Rattle.a2_scripts.proofs.OneDebugging.{one-debug-refusal, refused-undebugged, debugging-output, refused-or-debugged, one-debug-output}
use Rattle.a2_scripts.proofs.laws.a_debugging_script_has_one_output.Goals as goal

pub returns : goal.returns
returns c = record {
  refusal = one-debug-refusal;
  refused = refused-undebugged;
  each = debugging-output;
  either = refused-or-debugged;
  one = one-debug-output;
}
