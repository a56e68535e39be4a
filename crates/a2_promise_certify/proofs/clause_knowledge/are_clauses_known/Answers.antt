use Rattle.std.proofs.Common.{sym, subst}
use Rattle.std.proofs.lemmas.List.{drop_more}
use Rattle.a2_promise.specs.declared.promises.Clause.{Clause}
use Rattle.a2_promise.specs.ReadsOfValues.{Knows}
use Rattle.a2_promise.specs.Values.{moment_of}
use Rattle.a2_promise_certify.specs.Judging.{no_names}
use Rattle.a2_promise_certify.specs.Kept.{AreClausesKnown}
use Rattle.a2_promise_certify.specs.Looking.{known_of}
use Rattle.a2_promise_certify.proofs.clause_knowledge.are_clauses_known.Goals as goal

pub loop-clause-preserved : goal.loop-clause-preserved
loop-clause-preserved c = λ rest.
    let m = moment_of c.args.entry.now.sight in
    let n = moment_of c.args.exit.now.sight in
    let before = known_of c.args.entry.now in
    let following = known_of c.args.exit.now in
    c.loop-clause.invariant
    (subst (λ clauses. AreClausesKnown clauses before following m n)
    (sym (drop_more c.args.clauses.now c.loop-clause.clause-index c.clause-item.result c.loop-clause-test.true)) (
      subst (λ (clause : Clause). Knows clause.expr before following m n no_names) c.clause-item.is
          (c.is_expression_known.ensures c.if-not-is_expression_known.false),
      rest,
    ))
