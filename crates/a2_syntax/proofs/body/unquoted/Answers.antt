use Rattle.std.proofs.Common.{ap, sym, ◌∷◌, ◌∙◌}
use Rattle.std.specs.List.{list_all}
use Rattle.std.proofs.lemmas.Bool.{false≢true}
use Rattle.std.proofs.lemmas.List.Sums.{list_all-from_AllPass}
use Rattle.a2_syntax.specs.Numbers.{is_quotable}
use Rattle.a2_syntax.proofs.BodyLaws.{quotes-one}
use Rattle.a2_syntax.proofs.body.unquoted.Goals as goal

pub returns-then-not-all_quotable : goal.returns-then-not-all_quotable
returns-then-not-all_quotable c = λ r more (_, all, is) some.
    (let (quotes, texts) = quotes-one _ _ r _ more (sym (c.in_ok-quote.ensures.cases.0 ∙ ap (λ z. c.in_ok-quote.quote.now ∷ z) c.in_ok-last.ensures.cases.0) ∙ is) in
    false≢true (sym c.if-not-all_quotable.true ∙ c.all_quotable.ensures ∙ (λ i. list_all (is_quotable (quotes i)) (texts i)) ∙ list_all-from_AllPass (is_quotable r) more all))
