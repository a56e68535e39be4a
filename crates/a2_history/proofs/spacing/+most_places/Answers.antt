use Rattle.std.proofs.Common.{◌∙◌, sym, ap, arith}
use Rattle.a2_history.specs.Spacing.{most_of}
use Rattle.a2_history.proofs.Nearness.{most-none, most-more}
use Rattle.a2_history.proofs.spacing.+most_places.Goals as goal

pub returns-then-places-eq0-clause-most : goal.returns-then-places-eq0-clause-most
returns-then-places-eq0-clause-most t c = λ levels few.
    sym (ap (λ n. most_of levels c.args.width n) c.if-places-eq0.true ∙ most-none levels c.args.width)

pub returns-clause-most : goal.returns-clause-most
returns-clause-most t c = λ levels few.
    most-more levels c.args.width c.args.places c.min.result c.most_places.result c.if-places-eq0.false few
    (omega (arith, c.min.ensures, c.odd_up_to.ensures, c.odd_up_to-2.ensures)) c.most_places.ensures.most
