use Rattle.a2_syntax.proofs.ListedLaws.{listed-operand}
use Rattle.a2_syntax.proofs.listed.a_listed_operand_is_source_text.Goals as goal

pub returns : goal.returns
returns c = listed-operand
