use Rattle.a2_debugger.proofs.Wording.{if_some, if_none, verb_found, verb_listed}
use Rattle.a2_debugger.proofs.verbs.spelled.Goals as goal

pub returns-clause-found : goal.returns-clause-found
returns-clause-found c = if_some c.named.result _ _ (λ v among. verb_found c.args.letters.now v among) c.named.ensures.found

pub returns-clause-none : goal.returns-clause-none
returns-clause-none c = if_none c.named.result _ _ (λ none v is. none v (verb_listed c.args.letters.now v is)) c.named.ensures.none
