use Rattle.a2_scripts.proofs.Scripting.{each_line}
use Rattle.a2_scripts.proofs.scripts.answer_script.Goals as goal

pub answer_all-requires-clause-each : goal.answer_all-requires-clause-each
answer_all-requires-clause-each g c = each_line
