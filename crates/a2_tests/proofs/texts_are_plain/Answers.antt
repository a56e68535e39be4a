use Rattle.a2_tests.proofs.Plain.{texts-plain}
use Rattle.a2_tests.proofs.texts_are_plain.Goals as goal

pub returns : goal.returns
returns c = texts-plain
