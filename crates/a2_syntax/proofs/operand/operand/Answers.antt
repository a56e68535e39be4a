use Rattle.std.proofs.Common.{map, sym, ◌∙◌, arith}
use Rattle.std.proofs.lemmas.List.{length-map}
use Rattle.a2_syntax.proofs.OperandLaws.{accumulator-is, operand-found}
use Rattle.a2_syntax.proofs.operand.operand.Goals as goal

pub returns-then-is_accumulator : goal.returns-then-is_accumulator
returns-then-is_accumulator g c = accumulator-is _ (sym c.is_accumulator.ensures ∙ c.if-is_accumulator.true)

pub returns : goal.returns
returns g c =
    let ps = map (λ x. x.now) c.args.pieces.now in
    rw c.shaped.ensures (operand-found ps _ _ c.shape_of-shape.ensures.is (omega (arith, length-map c.args.pieces.now (λ x. x.now), c.requires.some)) (sym c.is_accumulator.ensures ∙ c.if-is_accumulator.false) c.in_ok-expr.ensures)
