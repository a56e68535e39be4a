use Rattle.std.proofs.Common.{sym, ap, ◌∙◌, subst}
use Rattle.std.specs.Prelude.{pos, slice_set}
use Rattle.a2_promise.specs.declared.expr.Expr.TheVariants.{Each, Sum}
use Rattle.a2_promise.specs.ReadsOfValues.{IsBelow, Knows, KnowsMade, OfChosen}
use Rattle.a2_promise.specs.Values.{count_of, moment_of, value_of}
use Rattle.a2_promise_certify.specs.Looking.{known_of}
use Rattle.a2_promise_certify.proofs.Looking.{none_chosen, of_either, one_chosen, other_chosen}
use Rattle.a2_promise_certify.proofs.clause_knowledge.+looks.Goals as goal

pub is_expression_known-returns-then-is_expression_known : goal.is_expression_known-returns-then-is_expression_known
is_expression_known-returns-then-is_expression_known t c = λ is.
    let m = moment_of c.args.entry.now.sight in
    let n = moment_of c.args.exit.now.sight in
    let before = known_of c.args.entry.now in
    let following = known_of c.args.exit.now in
    subst (λ e. Knows e before following m n c.args.names) (sym c.in-Of.is) (
      subst (λ e. Knows e before following m n c.args.names) c.deref-in-Of.ensures (c.is_expression_known-in-Of.ensures c.if-is_expression_known.true),
      subst (λ v. KnowsMade c.in-Of.function following v)
          (c.value.ensures ∙ ap (λ e. value_of e m n c.args.names) c.deref-then-is_expression_known.ensures) (c.is_function_known.ensures is),
    )

pub is_expression_known-returns-then-is_expression_known-2 : goal.is_expression_known-returns-then-is_expression_known-2
is_expression_known-returns-then-is_expression_known-2 t c = λ is.
    let m = moment_of c.args.entry.now.sight in
    let n = moment_of c.args.exit.now.sight in
    let before = known_of c.args.entry.now in
    let following = known_of c.args.exit.now in
    subst (λ e. Knows e before following m n c.args.names) (sym c.in-Pair.is) (
      subst (λ e. Knows e before following m n c.args.names) c.deref-in-Pair.ensures (c.is_expression_known-in-Pair.ensures c.if-is_expression_known-2.true),
      subst (λ e. Knows e before following m n c.args.names) c.deref-then-is_expression_known-2.ensures (c.is_expression_known-then-is_expression_known-2.ensures is),
    )

pub is_expression_known-returns-in-None : goal.is_expression_known-returns-in-None
is_expression_known-returns-in-None t c = λ is.
    let m = moment_of c.args.entry.now.sight in
    let n = moment_of c.args.exit.now.sight in
    let before = known_of c.args.entry.now in
    let following = known_of c.args.exit.now in
    subst (λ e. Knows e before following m n c.args.names) (sym c.in-Choice.is) (
      subst (λ e. Knows e before following m n c.args.names) c.deref-in-Choice.ensures (c.is_expression_known-in-Choice.ensures c.if-is_expression_known-3.true),
      subst (λ v. OfChosen v (Knows c.in-Choice.yes.value before following m n c.args.names) (Knows c.in-Choice.no.value before following m n c.args.names))
          (c.value-then-is_expression_known-3.ensures ∙ ap (λ e. value_of e m n c.args.names) c.deref-then-is_expression_known-3.ensures)
          (none_chosen c.value-then-is_expression_known-3.result (Knows c.in-Choice.yes.value before following m n c.args.names)
          (Knows c.in-Choice.no.value before following m n c.args.names) c.in-None.is),
    )

pub is_expression_known-returns-in_default : goal.is_expression_known-returns-in_default
is_expression_known-returns-in_default t c = λ is.
    let m = moment_of c.args.entry.now.sight in
    let n = moment_of c.args.exit.now.sight in
    let before = known_of c.args.entry.now in
    let following = known_of c.args.exit.now in
    subst (λ e. Knows e before following m n c.args.names) (sym c.in-Choice.is) (
      subst (λ e. Knows e before following m n c.args.names) c.deref-in-Choice.ensures (c.is_expression_known-in-Choice.ensures c.if-is_expression_known-3.true),
      subst (λ v. OfChosen v (Knows c.in-Choice.yes.value before following m n c.args.names) (Knows c.in-Choice.no.value before following m n c.args.names))
          (c.value-then-is_expression_known-3.ensures ∙ ap (λ e. value_of e m n c.args.names) c.deref-then-is_expression_known-3.ensures)
          (one_chosen c.value-then-is_expression_known-3.result (Knows c.in-Choice.yes.value before following m n c.args.names)
          (Knows c.in-Choice.no.value before following m n c.args.names) (sym c.holds.ensures ∙ c.if-holds.true)
          (subst (λ e. Knows e before following m n c.args.names) c.deref-in_default.ensures (c.is_expression_known-in_default.ensures is))),
    )

pub is_expression_known-returns-in-Some : goal.is_expression_known-returns-in-Some
is_expression_known-returns-in-Some t c = λ is.
    let m = moment_of c.args.entry.now.sight in
    let n = moment_of c.args.exit.now.sight in
    let before = known_of c.args.entry.now in
    let following = known_of c.args.exit.now in
    subst (λ e. Knows e before following m n c.args.names) (sym c.in-Choice.is) (
      subst (λ e. Knows e before following m n c.args.names) c.deref-in-Choice.ensures (c.is_expression_known-in-Choice.ensures c.if-is_expression_known-3.true),
      subst (λ v. OfChosen v (Knows c.in-Choice.yes.value before following m n c.args.names) (Knows c.in-Choice.no.value before following m n c.args.names))
          (c.value-then-is_expression_known-3.ensures ∙ ap (λ e. value_of e m n c.args.names) c.deref-then-is_expression_known-3.ensures)
          (other_chosen c.value-then-is_expression_known-3.result (Knows c.in-Choice.yes.value before following m n c.args.names)
          (Knows c.in-Choice.no.value before following m n c.args.names) (sym c.holds.ensures ∙ c.if-holds.false)
          (subst (λ e. Knows e before following m n c.args.names) c.deref-in-Some.ensures (c.is_expression_known-in-Some.ensures is))),
    )

pub is_expression_known-returns-then-is_expression_known-4 : goal.is_expression_known-returns-then-is_expression_known-4
is_expression_known-returns-then-is_expression_known-4 t c = λ is.
    let m = moment_of c.args.entry.now.sight in
    let n = moment_of c.args.exit.now.sight in
    let before = known_of c.args.entry.now in
    let following = known_of c.args.exit.now in
    let looked : Knows (Each c.in-Each.name c.in-Each.count c.in-Each.body) before following m n c.args.names = (
      subst (λ e. Knows e before following m n c.args.names) c.deref-in-Each-2.ensures (c.is_expression_known-in-Each.ensures c.if-is_expression_known-4.true),
      λ k below.
          subst (λ e. Knows e before following m n (slice_set c.args.names c.in-Each.name (pos k))) c.deref-then-is_expression_known-4.ensures
          (c.is_each_known.ensures is k
          (subst (λ v. IsBelow k (count_of v)) (sym (c.value-number.ensures ∙ ap (λ e. value_of e m n c.args.names) c.deref-in-Each.ensures)) below)),
    ) in
    of_either (λ e. Knows e before following m n c.args.names) c.args.expr.now (Each c.in-Each.name c.in-Each.count c.in-Each.body)
    (Sum c.in-Each.name c.in-Each.count c.in-Each.body) c.in-Each.is looked looked
