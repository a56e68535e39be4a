use Rattle.a2_promise.proofs.Names.{if_some, if_none, opening_found, none_opens}
use Rattle.a2_promise.proofs.words.opening_of.Goals as goal

pub returns-in-None-clause-found : goal.returns-in-None-clause-found
returns-in-None-clause-found c = if_some c.meaning.result _ _ (λ it m. opening_found c.args.token.class c.args.token.text.now it m) c.meaning.ensures.found

pub returns-in-None-clause-none : goal.returns-in-None-clause-none
returns-in-None-clause-none c =
    if_none c.meaning.result _ _ (λ all. none_opens c.args.token.class c.args.token.text.now c.in-None.ensures.none all) c.meaning.ensures.none
