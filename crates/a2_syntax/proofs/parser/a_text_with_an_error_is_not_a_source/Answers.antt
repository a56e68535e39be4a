use Rattle.a2_syntax.proofs.OneReading.{refused-none}
use Rattle.a2_syntax.proofs.parser.a_text_with_an_error_is_not_a_source.Goals as goal

pub returns : goal.returns
returns c = refused-none
