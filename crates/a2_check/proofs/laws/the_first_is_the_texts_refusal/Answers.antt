use Rattle.a2_check.proofs.First.{first-refusal}
use Rattle.a2_check.proofs.laws.the_first_is_the_texts_refusal.Goals as goal

pub returns : goal.returns
returns c = first-refusal
