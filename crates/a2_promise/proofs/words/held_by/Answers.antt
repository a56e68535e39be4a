use Rattle.a2_promise.proofs.Names.{if_some, if_none, held_found, none_held}
use Rattle.a2_promise.proofs.words.held_by.Goals as goal

pub returns-clause-found : goal.returns-clause-found
returns-clause-found c = if_some c.meaning.result _ _ (λ it m. held_found c.args.token.class c.args.token.text.now it m) c.meaning.ensures.found

pub returns-clause-none : goal.returns-clause-none
returns-clause-none c = if_none c.meaning.result _ _ (λ none. none_held c.args.token.class c.args.token.text.now none) c.meaning.ensures.none
