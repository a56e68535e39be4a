use Rattle.std.specs.Prelude.{◌||◌}
use Rattle.std.specs.List.{list_any}
use Rattle.std.proofs.Common.{ap, sym, ◌∙◌, take}
use Rattle.std.proofs.lemmas.List.{take_all}
use Rattle.std.proofs.lemmas.List.Folds.{list_any_more}
use Rattle.a2_footprint.specs.Parts.{is_part}
use Rattle.a2_promise_certify.specs.Walking.{knows_part}
use Rattle.a2_promise_certify.proofs.Marking.{learned}
use Rattle.a2_promise_certify.proofs.known_parts.KnownParts.learn.Goals as goal

pub loop-part-preserved : goal.loop-part-preserved
loop-part-preserved c = λ part.
    ap (λ parts. knows_part parts part) c.add.ensures
    ∙ learned _ part c.loop-part.self (list_any (is_part part) (take c.loop-part.part-index c.args.parts.now)) (knows_part c.args.self.now part)
    (c.loop-part.invariant part)
    ∙ ap (λ v. v || knows_part c.args.self.now part)
    (sym (list_any_more (is_part part) c.args.parts.now c.loop-part.part-index _ c.loop-part-test.true))

pub returns : goal.returns
returns c = λ part.
    c.loop-part.invariant part
    ∙ ap (λ xs. list_any (is_part part) xs || knows_part c.args.self.now part)
    (take_all c.loop-part.part-index c.args.parts.now c.loop-part-test.false)
