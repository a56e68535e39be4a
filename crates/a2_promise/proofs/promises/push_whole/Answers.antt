use Rattle.a2_promise.proofs.promises.push_whole.Goals as goal

pub returns : goal.returns
returns c = record {
  ended = c.in_ok-ended.ensures;
  clause = _;
  more = c.in_ok-expr.ensures.0;
  made_of = c.in_ok-expr.ensures.1;
  adds = c.in_ok-push_clause.ensures;
}
