use Rattle.a2_syntax.proofs.OneReading.{one-source}
use Rattle.a2_syntax.proofs.parser.a_text_has_at_most_one_list_of_lines.Goals as goal

pub returns : goal.returns
returns c = one-source
