use Rattle.std.proofs.Common.{length, ap, arith}
use Rattle.std.proofs.lemmas.List.{length-map}
use Rattle.std.proofs.lemmas.Result.{IfOk-weaker}
use Rattle.a2_syntax.proofs.BodyLaws.{operand_of-found}
use Rattle.a2_syntax.proofs.body.operand_of.Goals as goal

pub returns-then-pieces-gt0 : goal.returns-then-pieces-gt0
returns-then-pieces-gt0 g c = IfOk-weaker _ _ _
    (operand_of-found c.args.mnemonic _ (λ s e. omega (arith, ap length e, length-map c.args.pieces.now (λ x. x.now), c.if-pieces-gt0.true))) c.operand.ensures
