use Rattle.std.proofs.Common.{[], pos, ap, sym, ◌∙◌, get_or, arith}
use Rattle.a2_promise.specs.declared.parts.Part.TheVariants.{Number}
use Rattle.a2_promise.specs.Reading.{made_by, stack_of}
use Rattle.a2_promise.proofs.Making.{none_made, made_more, popped}
use Rattle.a2_promise.proofs.parts.expr_of.Goals as goal

pub loop-part-init : goal.loop-part-init
loop-part-init c = none_made [] ∙ ap stack_of (sym c.new-made.ensures.items)

pub loop-part-preserved : goal.loop-part-preserved
loop-part-preserved c =
    made_more c.args.parts.now c.loop-part.part-index (Number (pos 0)) [] (omega arith)
    ∙ ap (λ phrases. made_by (get_or c.args.parts.now c.loop-part.part-index (Number (pos 0))) phrases) c.loop-part.invariant
    ∙ sym c.in_ok-push_part.ensures

pub returns-in-Some : goal.returns-in-Some
returns-in-Some c =
    popped c.args.parts.now c.loop-part.part-index c.loop-part.made.items c.pop.new.self.items c.in-Some.expr c.loop-part.invariant
    c.loop-part-test.false c.in-Some.ensures.items
