use Rattle.a2_promise.proofs.Names.{if_some}
use Rattle.a2_promise.proofs.Saying.{verb_found}
use Rattle.a2_promise.proofs.promises.verb_of.Goals as goal

pub returns : goal.returns
returns c = if_some c.meaning.result _ _ (λ it m. verb_found c.args.token.class c.args.token.text.now it m) c.meaning.ensures.found
