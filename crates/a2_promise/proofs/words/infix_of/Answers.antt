use Rattle.a2_promise.proofs.Names.{if_some, if_none, joint_found, no_joint}
use Rattle.a2_promise.proofs.words.infix_of.Goals as goal

pub returns-clause-found : goal.returns-clause-found
returns-clause-found c = if_some c.meaning.result _ _ (λ join m. joint_found c.args.token.class c.args.token.text.now join m) c.meaning.ensures.found

pub returns-clause-none : goal.returns-clause-none
returns-clause-none c = if_none c.meaning.result _ _ (λ all. no_joint c.args.token.class c.args.token.text.now all) c.meaning.ensures.none
