use Rattle.a2_syntax.proofs.EachReading.{one-refusal, some-reading}
use Rattle.a2_syntax.proofs.parser.a_text_has_at_most_one_error.Goals as goal

pub returns-clause-one : goal.returns-clause-one
returns-clause-one c = one-refusal

pub returns-clause-either : goal.returns-clause-either
returns-clause-either c = some-reading
