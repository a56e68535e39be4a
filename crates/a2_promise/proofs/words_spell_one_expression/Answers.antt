use Rattle.a2_promise.proofs.Joints as theorem
use Rattle.a2_promise.proofs.words_spell_one_expression.Goals as goal

pub returns : goal.returns
returns c = theorem.one_expression
