use Rattle.a2_promise.proofs.Facts.{fact_added}
use Rattle.a2_promise.proofs.Laying.{on_ok}
use Rattle.a2_promise.proofs.promises.push_fact.Goals as goal

pub returns : goal.returns
returns c = λ none. on_ok c.push_whole.result c.push_whole.ensures (fact_added c.in_ok-expression.ensures c.in_ok-fact.ensures none)
